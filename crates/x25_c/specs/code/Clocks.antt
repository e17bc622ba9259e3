-- What is made of the clock of a station that is held, and of what is due by it (profile).
use Rattle.std.specs.Prelude.{◌≡◌, ℕ, Option, Some, None, IsSomeAnd, Result, Ok, MatchResult}
use Rattle.x25_clock.specs.declared.due.Due.{Due}
use Rattle.x25_clock.specs.declared.times.Times.{Times}
use Rattle.x25_clock.specs.Clock.{begun, plain}
use Rattle.x25_clock.specs.Due.{asked_of, channel_for, event_for, timer_number}
use Rattle.x25_layer.specs.code.FitsLayer.{awaited_at}
use Rattle.x25_station.specs.declared.error.StationError.{StationError}
use Rattle.x25_station.specs.declared.timer.Timer.TheVariants.{GoesOn}
use Rattle.x25_station.specs.Config.{Settings, layer_settings}
use Rattle.x25_station.specs.Station.{Station}
use Rattle.x25_station.specs.code.FitsStation.{FitsStation, FitsStill, IsEmpty}
use Rattle.x25_c.specs.declared.clocked.Passed.{Passed}
use Rattle.x25_c.specs.declared.held.Held.{Held}
use Rattle.x25_c.specs.Clocked.{BeginsFirst, Tells, due_in, moment_of}
use Rattle.x25_c.specs.Held.{IsAlone}
use Rattle.x25_c.specs.code.Happens.{HappensTo}

-- a station is given a clock, which begins beside it, and nothing else changes
pub record Sets (old new : Held) (times : Times) : Type 0 where
  pub is : new ≡ record old { clock = new.clock }
  pub clock : IsSomeAnd new.clock (λ clock. (clock.times ≡ times) × ((c : Settings) (s : Station) →
      FitsStation c old.station s → plain clock ≡ begun times (moment_of old.time) c.channels.count c s))

-- nothing happens, and nothing is answered
pub record Rests (old new : Held) : Type 0 where
  pub end : new.end ≡ old.end
  pub station : FitsStill old.station new.station
  pub empty : IsEmpty new.step
  pub timer : new.step.timer ≡ GoesOn
  pub alone : IsAlone new
  pub passed : new.passed ≡ None
  pub clock : new.clock ≡ old.clock
  pub time : new.time ≡ old.time

abbrev pub passed_at : Held → Settings → Station → Due → Passed
passed_at h c s due = record {
  timer = timer_number h.end (awaited_at (layer_settings c) s.layer (channel_for due)) due;
  channel = channel_for due;
}

-- what is due is asked for, or that for which there is room, and where it isn't refused the answer tells which timer
-- passed
pub record Insists (old new : Held) (result : Result Unit StationError) (due : Due) : Type 0 where
  pub asked : Due
  pub is : (c : Settings) (s : Station) → FitsStation c old.station s → asked ≡ asked_of c s due
  pub happens : HappensTo old new result (event_for asked)
  pub alone : IsAlone new
  pub passed : (c : Settings) (s : Station) → FitsStation c old.station s →
      MatchResult result (λ u. new.passed ≡ Some (passed_at old c s due)) (λ e. new.passed ≡ None)

-- the time is this
pub record IsSaid (now : ℕ) (old new : Held) : Type 0 where
  pub is : new ≡ record old { clock = new.clock; time = Some now }
  pub clock : BeginsFirst now old.time old.station old.clock new.clock

-- what is due has its time anew
pub record IsTold (now : ℕ) (old new : Held) : Type 0 where
  pub is : new ≡ record old { clock = new.clock }
  pub clock : Tells now old.clock new.clock

abbrev pub PassesAt : Option Due → Held → Held → Result Unit StationError → Type 0
PassesAt None old new result = (result ≡ Ok tt) × Rests old new
PassesAt (Some due) old new result = Insists old new result due

-- the time is said, and the first of what is due is asked for
unfoldable pub Passes : Held → Held → Result Unit StationError → ℕ → Type 0
Passes old new result now = (first : Held) × IsSaid now old first × (mid : Held) × IsTold now first mid
    × PassesAt (due_in now first.clock) mid new result
