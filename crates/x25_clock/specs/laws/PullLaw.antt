-- What is pulled behind a step may be heeded with it (profile), as one who pulls at once does.
use Rattle.std.specs.Prelude.{◌≡◌, ℕ, ◌+◌, ◌≤◌, [], ◌∷◌, ◌++◌}
use Rattle.x25_layer.specs.Calls.{PullsAll}
use Rattle.x25_layer.specs.code.FitsLayer.{awaited_at, unacknowledged_at}
use Rattle.x25_station.specs.Command.{Requests}
use Rattle.x25_station.specs.Config.{Settings, layer_settings}
use Rattle.x25_station.specs.Pulling.{pulled}
use Rattle.x25_station.specs.Station.{Station}
use Rattle.x25_station.specs.Station.Told.{is_at_rest}
use Rattle.x25_station.specs.Step.{Step, Did}
use Rattle.x25_station.specs.Timer.{tells_link, timer_pulled}
use Rattle.x25_station.specs.laws.SettledLaw.{IsSettled}
use Rattle.x25_station.specs.laws.TimerLaw as timer
use Rattle.x25_station.specs.laws.TimerLaw.{Asks}
use Rattle.x25_clock.specs.declared.times.Times.{Times}
use Rattle.x25_clock.specs.Clock.{Seen, heeded, is_heard}
use Rattle.x25_clock.specs.laws.ClockLaw.{Watched, AreTrue, comes}
use Rattle.x25_clock.specs.laws.WaitLaw.{Deed, Happens, event_of, later_by, found_by, outcome_of, all_done}

-- what is seen of an event and of the station behind what is pulled then
abbrev pub seen_pulled : Settings → Station → timer.StationEvent → Step → Seen
seen_pulled c s event step = let pulls = pulled c step.near in let next = pulls.near in record {
  timer = timer_pulled (timer.timer s event (Did step)) step.near next;
  at_rest = is_at_rest next;
  restarting = next.layer.restarting;
  noted = tells_link step.entries;
  heard = is_heard (comes event) (step.out ++ pulls.out) step.entries;
  awaited = λ h. awaited_at (layer_settings c) next.layer h;
  unacknowledged = λ h. unacknowledged_at (layer_settings c) next.layer h;
}

abbrev pub pull : Deed
pull = Happens 0 (Asks (Requests PullsAll))

-- the deed is done, what waits is pulled, and both are heeded at once
abbrev pub pulled_by : Settings → Times → Deed → Step → Watched → Watched
pulled_by c times deed step w = record {
  station = (pulled c step.near).near;
  deadlines = heeded times (w.now + later_by deed) (seen_pulled c w.station (event_of c deed w.station) step)
      (found_by times deed w).deadlines;
  now = w.now + later_by deed;
}

-- That is as the deed and then the pull, each heeded, at one moment, where the deadlines are true before.
abbrev pub PullIsHeeded : Type 0
PullIsHeeded = (c : Settings) (times : Times) (deed : Deed) (step : Step) (w : Watched) (before : ℕ) → before ≤ w.now
    → AreTrue c times (record w { now = before }) → IsSettled c step.near → outcome_of c deed w ≡ Did step
    → pulled_by c times deed step w ≡ all_done c times (deed ∷ pull ∷ []) w
