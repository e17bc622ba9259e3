-- The clock of a station that C holds, where it has one (profile): what it makes of what happens, and what is due.
use Rattle.std.specs.Prelude.{◌≡◌, ℕ, nat_lt, Bool, true, false, Option, Some, None}
use Rattle.x25_clock.specs.declared.clock.Clock.{Clock}
use Rattle.x25_clock.specs.declared.due.Due.{Due}
use Rattle.x25_clock.specs.declared.times.Times as clock
use Rattle.x25_clock.specs.Clock.{Seen, after_due, begun, due_of, heeded, next_of, plain}
use Rattle.x25_station.specs.Config.{Settings}
use Rattle.x25_station.specs.Station.{Station}
use Rattle.x25_station.specs.code.FitsStation.{FitsStation}
use Rattle.x25_station.specs.declared.station.Station as code
use Rattle.x25_c.specs.declared.times.Times.{Times}

abbrev pub times_in : Times → clock.Times
times_in t = record {
  t1 = t.t1;
  t3 = t.t3;
  t20 = t.t20;
  t21 = t.t21;
  t22 = t.t22;
  t23 = t.t23;
  t25 = t.t25;
  t26 = t.t26;
}

abbrev pub times_told : clock.Times → Times
times_told t = record {
  t1 = t.t1;
  t3 = t.t3;
  t20 = t.t20;
  t21 = t.t21;
  t22 = t.t22;
  t23 = t.t23;
  t26 = t.t26;
  t25 = t.t25;
}

-- the deadlines are what a step makes of them, by the same times
abbrev pub Heeds : ℕ → Seen → Option Clock → Option Clock → Type 0
Heeds now x None None = Unit {0}
Heeds now x None (Some new) = ⊥
Heeds now x (Some old) None = ⊥
Heeds now x (Some old) (Some new) = (plain new ≡ heeded old.times now x (plain old)) × (new.times ≡ old.times)

-- ---- the time

-- the moment at which something happens: 0 before a time is said
abbrev pub moment_of : Option ℕ → ℕ
moment_of None = 0
moment_of (Some last) = last

-- whether a time is before the one that was said last
abbrev pub is_before : ℕ → Option ℕ → Bool
is_before now None = false
is_before now (Some last) = nat_lt now last

-- what is awaited of a station is awaited since this moment
abbrev pub Begins : ℕ → code.Station → Option Clock → Option Clock → Type 0
Begins now v None None = Unit {0}
Begins now v None (Some new) = ⊥
Begins now v (Some old) None = ⊥
Begins now v (Some old) (Some new) = ((c : Settings) (s : Station) → FitsStation c v s
    → plain new ≡ begun old.times now old.channels c s) × (new.times ≡ old.times)

-- as the first time is said what was awaited before it begins
abbrev pub BeginsFirst : ℕ → Option ℕ → code.Station → Option Clock → Option Clock → Type 0
BeginsFirst now None v old new = Begins now v old new
BeginsFirst now (Some last) v old new = new ≡ old

-- ---- what is due

abbrev pub due_in : ℕ → Option Clock → Option Due
due_in now None = None
due_in now (Some v) = due_of now (plain v)

-- what is told as due has its time anew
abbrev pub Tells : ℕ → Option Clock → Option Clock → Type 0
Tells now None None = Unit {0}
Tells now None (Some new) = ⊥
Tells now (Some old) None = ⊥
Tells now (Some old) (Some new) = (plain new ≡ after_due old.times now (plain old)) × (new.times ≡ old.times)

abbrev pub next_in : Option Clock → Option ℕ
next_in None = None
next_in (Some v) = next_of (plain v)

-- whether something is due at some moment, which is written then; else what stood there stands
abbrev pub TellsNext : Option ℕ → Bool → ℕ → ℕ → Type 0
TellsNext None is_there old new = (is_there ≡ false) × (new ≡ old)
TellsNext (Some moment) is_there old new = (is_there ≡ true) × (new ≡ moment)
