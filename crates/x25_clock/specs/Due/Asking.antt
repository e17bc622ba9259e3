-- What is due is asked of a station (profile).
use Rattle.std.specs.Prelude.{◌≡◌, Result}
use Rattle.x25_station.specs.declared.error.StationError.{StationError}
use Rattle.x25_station.specs.declared.station.Station as code
use Rattle.x25_station.specs.declared.step.Step as step_code
use Rattle.x25_station.specs.Config.{Settings}
use Rattle.x25_station.specs.Station.{Station}
use Rattle.x25_station.specs.code.Clock.{TellsTimer}
use Rattle.x25_station.specs.code.FitsStation.{FitsStation, Does, RefusesOnly}
use Rattle.x25_station.specs.laws.TimerLaw.{is_firing, outcome}
use Rattle.x25_clock.specs.declared.due.Due.{Due}
use Rattle.x25_clock.specs.Due.{asked_of, event_for}

-- the station does what this asks, and is never refused for want of memory
pub record DoesDue (old new : code.Station) (out : step_code.Step) (result : Result Unit StationError)
    (due : Due) : Type 0 where
  pub does : Does old new out result (λ c s. outcome c s (event_for due))
  pub timer : TellsTimer old out.timer result (is_firing (event_for due)) (λ c s. outcome c s (event_for due))
  pub only : (c : Settings) (s : Station) → FitsStation c old s → RefusesOnly result (outcome c s (event_for due))

-- what is asked for this is done
pub record AsksFor (old new : code.Station) (out : step_code.Step) (result : Result Unit StationError)
    (due : Due) : Type 0 where
  pub asked : Due
  pub is : (c : Settings) (s : Station) → FitsStation c old s → asked ≡ asked_of c s due
  pub done : DoesDue old new out result asked
