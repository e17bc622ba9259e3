-- Timer T1 and one who has a clock (profile). Behind each step T1 is off, goes on, or begins anew, and he holds one
-- deadline by that: it is dropped, left as it is, or set. When it passes he fires T1.
use Rattle.std.specs.Prelude.{◌≡◌, ℕ, ◌<◌, ◌⊎◌, Bool, true, false, List, [], ◌∷◌}
use Rattle.x25_link.specs.declared.error.LinkError.TheVariants as link_error
use Rattle.x25_station.specs.declared.error.StationError.TheVariants as error
use Rattle.x25_station.specs.declared.timer.Timer.{Timer}
use Rattle.x25_station.specs.declared.timer.Timer.TheVariants.{Off, Begins, GoesOn}
use Rattle.x25_station.specs.Config.{Settings}
use Rattle.x25_station.specs.Command.{Command}
use Rattle.x25_station.specs.Entry.{StationEntry, link_up, link_down}
use Rattle.x25_station.specs.Pulling.{pulled}
use Rattle.x25_station.specs.Station.{Station, new_station}
use Rattle.x25_station.specs.Step.{Step, Outcome, Did, Refused, receives, commands, fires}
use Rattle.x25_station.specs.Timer.{runs, timer_at, timer_pulled}

-- octets come, the user commands, or T1 fires
pub data StationEvent : Type 0 where
  Comes : (octets : List ℕ) → StationEvent
  Asks : (command : Command) → StationEvent
  Fires : StationEvent

abbrev pub outcome : Settings → Station → StationEvent → Outcome
outcome c s (Comes octets) = Did (receives c s octets)
outcome c s (Asks command) = commands c s command
outcome c s Fires = fires c s

abbrev pub is_firing : StationEvent → Bool
is_firing (Comes octets) = false
is_firing (Asks command) = false
is_firing Fires = true

abbrev pub timer : Station → StationEvent → Outcome → Timer
timer s event o = timer_at s (is_firing event) o

-- whether the deadline stands behind what T1 becomes
abbrev pub heeds : Timer → Bool → Bool
heeds Off stands = false
heeds GoesOn stands = stands
heeds Begins stands = true

-- a station, and whether the deadline stands
pub record Watched : Type 0 where
  pub station : Station
  pub stands : Bool

abbrev pub after : Station → Outcome → Station
after s (Did step) = step.near
after s (Refused e) = s

abbrev pub watched_by : Settings → StationEvent → Watched → Watched
watched_by c event w =
    let o = outcome c w.station event in
    record { station = after w.station o; stands = heeds (timer w.station event o) w.stands }

-- a station that never was up, and then any events, the first one first
abbrev pub watched_from : Settings → List StationEvent → Watched → Watched
watched_from c [] w = w
watched_from c (event ∷ events) w = watched_from c events (watched_by c event w)

abbrev pub watched : Settings → List StationEvent → Watched
watched c events = watched_from c events (record { station = new_station; stands = false })

-- the deadline stands exactly while T1 runs
abbrev pub DeadlineIsTrue : Type 0
DeadlineIsTrue = (c : Settings) (events : List StationEvent) → let w = watched c events in w.stands ≡ runs w.station

-- so one who fires where it stands is never refused
abbrev pub FiringIsTaken : Type 0
FiringIsTaken = (c : Settings) (events : List StationEvent) → let w = watched c events in w.stands ≡ true
    → (step : Step)
    × (fires c w.station ≡ Did step)

-- and one who fires where T1 is off is
abbrev pub OffIsRefused : Type 0
OffIsRefused = (c : Settings) (s : Station) → runs s ≡ false → fires c s ≡ Refused (error.Link link_error.NotRunning)

-- behind a step and a pull he sets it once, by what T1 became at both
abbrev pub PullIsHeeded : Type 0
PullIsHeeded = (c : Settings) (s : Station) (first : Timer) (stands : Bool) → heeds first stands ≡ runs s →
    let next = (pulled c s).near in heeds (timer_pulled first s next) stands ≡ runs next

-- ---- where T1 is due to begin anew

abbrev pub IsFiring : StationEvent → Type 0
IsFiring Fires = Unit {0}
IsFiring event = ⊥

-- LinkUp or LinkDown is among the entries
abbrev pub TellsLink : List StationEntry → Type 0
TellsLink [] = ⊥
TellsLink (link_up ∷ entries) = Unit {0}
TellsLink (link_down reason ∷ entries) = Unit {0}
TellsLink (entry ∷ entries) = TellsLink entries

-- the step was a firing, told LinkUp or LinkDown, or more of the frames sent are acknowledged behind it
abbrev pub IsDue : Station → StationEvent → Step → Type 0
IsDue s event step = IsFiring event
    ⊎ (TellsLink step.entries ⊎ (s.link.outgoing.acked < step.near.link.outgoing.acked))

-- T1 begins anew, where it runs, at an accepted event at which it is due to,
abbrev pub BeginsWhereDue : Type 0
BeginsWhereDue = (c : Settings) (s : Station) (event : StationEvent) (step : Step) → outcome c s event ≡ Did step
    → IsDue s event step → runs step.near ≡ true → timer s event (Did step) ≡ Begins

-- and at such an event and a pull behind it.
abbrev pub BeginsBehindPull : Type 0
BeginsBehindPull = (c : Settings) (s : Station) (event : StationEvent) (step : Step) → outcome c s event ≡ Did step
    → IsDue s event step → let next = (pulled c step.near).near in runs next ≡ true
    → timer_pulled (timer s event (Did step)) step.near next ≡ Begins
