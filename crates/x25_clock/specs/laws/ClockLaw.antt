-- One who has a clock beside a station (profile): behind each step he heeds it, and at any moment he may ask what is
-- due. A deadline then stands for what is awaited, since a moment from which it was, and for nothing else.
use Rattle.std.specs.Prelude.{◌≡◌, ℕ, ◌+◌, ◌≤◌, Bool, true, false, List, [], ◌∷◌, map, Option, None, is_some}
use Rattle.x25_circuit.specs.declared.awaits.Awaits.{Awaits}
use Rattle.x25_layer.specs.code.FitsLayer.{awaited_at, unacknowledged_at}
use Rattle.x25_station.specs.Config.{Settings, layer_settings}
use Rattle.x25_station.specs.Station.{Station, new_station}
use Rattle.x25_station.specs.Station.Told.{is_at_rest}
use Rattle.x25_station.specs.Step.{Outcome, Did, Refused}
use Rattle.x25_station.specs.Timer.{runs, standing, tells_link}
use Rattle.x25_station.specs.laws.TimerLaw as timer
use Rattle.x25_station.specs.laws.TimerLaw.{Comes, Asks, Fires}
use Rattle.x25_clock.specs.declared.times.Times.{Times}
use Rattle.x25_clock.specs.declared.wait.Wait.{Wait}
use Rattle.x25_clock.specs.Clock.{Deadlines, Seen, nothing_awaited, deadline, time_of, is_heard, heeded, after_due}

-- so much later an event of the station happens, and is heeded; or what is due is asked for
pub data Moment : Type 0 where
  Happens : (later : ℕ) → (event : timer.StationEvent) → Moment
  IsDue : (later : ℕ) → Moment

-- the station, the deadlines, and the time
pub record Watched : Type 0 where
  pub station : Station
  pub deadlines : Deadlines
  pub now : ℕ

abbrev pub comes : timer.StationEvent → Bool
comes (Comes octets) = true
comes (Asks command) = false
comes Fires = false

-- something is heard
abbrev pub hears : timer.StationEvent → Outcome → Bool
hears event (Did step) = is_heard (comes event) step.out step.entries
hears event (Refused e) = false

abbrev pub seen_of : Settings → Station → timer.StationEvent → Outcome → Seen
seen_of c s event (Did step) = record {
  timer = timer.timer s event (Did step);
  at_rest = is_at_rest step.near;
  restarting = step.near.layer.restarting;
  noted = tells_link step.entries;
  heard = hears event (Did step);
  awaited = λ h. awaited_at (layer_settings c) step.near.layer h;
  unacknowledged = λ h. unacknowledged_at (layer_settings c) step.near.layer h;
}
seen_of c s event (Refused e) = record {
  timer = standing s;
  at_rest = is_at_rest s;
  restarting = s.layer.restarting;
  noted = false;
  heard = false;
  awaited = λ h. awaited_at (layer_settings c) s.layer h;
  unacknowledged = λ h. unacknowledged_at (layer_settings c) s.layer h;
}

abbrev pub heeds : Settings → Times → ℕ → timer.StationEvent → Outcome → Watched → Watched
heeds c times now event o w = record {
  station = timer.after w.station o;
  deadlines = heeded times now (seen_of c w.station event o) w.deadlines;
  now = now;
}

abbrev pub watched_by : Settings → Times → Moment → Watched → Watched
watched_by c times (Happens later event) w =
    heeds c times (w.now + later) event (timer.outcome c w.station event) w
watched_by c times (IsDue later) w =
    record w { deadlines = after_due times (w.now + later) w.deadlines; now = w.now + later }

-- from a station that never was up, the first moment first
abbrev pub watched_from : Settings → Times → List Moment → Watched → Watched
watched_from c times [] w = w
watched_from c times (moment ∷ moments) w = watched_from c times moments (watched_by c times moment w)

abbrev pub watched : Settings → Times → List Moment → Watched
watched c times moments =
    watched_from c times moments
    (record { station = new_station; deadlines = nothing_awaited c.channels.count; now = 0 })

-- ---- what holds after each

-- the deadline of something that has lasted since a moment
pub record IsSince (now time : ℕ) (until : Option ℕ) : Type 0 where
  pub since : ℕ
  pub past : since ≤ now
  pub is : until ≡ deadline since time

-- it stands while something is so, and else not
pub record Stands (now time : ℕ) (so : Bool) (until : Option ℕ) : Type 0 where
  pub on : so ≡ true → IsSince now time until
  pub off : so ≡ false → until ≡ None

-- of a channel: what is awaited there, and its deadline, where that of nothing is none; and the first data packet that
-- isn't acknowledged, and its deadline, which stands while there is one
pub record IsAwaited (times : Times) (now : ℕ) (awaited : ℕ → Awaits) (first : ℕ → Option ℕ) (w : Wait) : Type 0 where
  pub awaits : w.awaits ≡ awaited w.channel
  pub until : IsSince now (time_of times w.awaits) w.until
  pub unacknowledged : w.unacknowledged ≡ first w.channel
  pub rotates : Stands now times.t25 (is_some w.unacknowledged) w.rotates

abbrev pub AreAwaited : Times → ℕ → (ℕ → Awaits) → (ℕ → Option ℕ) → List Wait → Type 0
AreAwaited times now awaited first [] = Unit {0}
AreAwaited times now awaited first (w ∷ waits) = IsAwaited times now awaited first w
    × AreAwaited times now awaited first waits

pub record AreTrue (c : Settings) (times : Times) (w : Watched) : Type 0 where
  pub t1 : Stands w.now times.t1 (runs w.station) w.deadlines.t1
  pub idle : Stands w.now times.t3 (is_at_rest w.station) w.deadlines.idle
  pub restart : Stands w.now times.t20 w.station.layer.restarting w.deadlines.restart
  pub waits : AreAwaited times w.now (λ h. awaited_at (layer_settings c) w.station.layer h)
      (λ h. unacknowledged_at (layer_settings c) w.station.layer h) w.deadlines.waits
  pub channels : map (λ x. x.channel) w.deadlines.waits
      ≡ map (λ x. x.channel) (nothing_awaited c.channels.count).waits

abbrev pub DeadlinesAreTrue : Type 0
DeadlinesAreTrue = (c : Settings) (times : Times) (moments : List Moment) → AreTrue c times (watched c times moments)

-- and where they are they stay so
abbrev pub TrueStays : Type 0
TrueStays = (c : Settings) (times : Times) (moments : List Moment) (w : Watched) → AreTrue c times w
    → AreTrue c times (watched_from c times moments w)
