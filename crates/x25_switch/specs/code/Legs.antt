-- What the station of a leg does for a call, and what the call is then.
use Rattle.std.specs.Prelude.{◌≡◌, ℕ, false, Some, Result, Ok, Err}
use Rattle.x25_bits.specs.declared.role.Role.{Role}
use Rattle.x25_crossing.specs.Crossing.{two_of}
use Rattle.x25_crossing.specs.code.Plain.{plain}
use Rattle.x25_crossing.specs.declared.crossing.Crossing.{Crossing}
use Rattle.x25_crossing.specs.declared.side.Side.{Side}
use Rattle.x25_station.specs.Command.{Command}
use Rattle.x25_station.specs.Step.{commands}
use Rattle.x25_station.specs.code.Clock.{TellsTimer}
use Rattle.x25_station.specs.code.FitsStation.{Does}
use Rattle.x25_station.specs.declared.error.StationError.{StationError}
use Rattle.x25_station.specs.declared.station.Station.{Station}
use Rattle.x25_station.specs.declared.step.Step.{Step}
use Rattle.x25_switch.specs.Leg.{wanted, accepted}
use Rattle.x25_switch.specs.declared.leg.Kind.{Kind}

-- the station does a command
pub record Commanded (old new : Station) (out : Step) (answer : Result Unit StationError) (command : Command)
    : Type 0 where
  pub does : Does old new out answer (λ c s. commands c s command)
  pub timer : TellsTimer old out.timer answer false (λ c s. commands c s command)

-- what the call asks for is what the station does, or refuses
pub record Asks (call : Crossing) (side : Side) (kind : Kind) (role : Role) (channel : ℕ) (old new : Station)
    (out : Step)
    (answer : Result Unit StationError) : Type 0 where
  pub command : Command
  pub is : wanted kind role channel (two_of side (plain call)) ≡ Some command
  pub done : Commanded old new out answer command

-- the call is told what was accepted; of what was refused nothing
abbrev pub Leaves : Crossing → Side → Kind → Result Unit StationError → Crossing → Type 0
Leaves old side kind (Ok u) new = plain new ≡ accepted kind side (plain old)
Leaves old side kind (Err e) new = new ≡ old
