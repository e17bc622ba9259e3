-- What the calls of a station that is held do, and what it then holds.
use Rattle.std.specs.Prelude.{◌≡◌, ◌⊎◌, false, Option, Some, None, Result, Ok, Err, OnErr, OnOk}
use Rattle.x25_bits.specs.declared.role.Role.{Role}
use Rattle.x25_console.specs.Commands.{command_asked}
use Rattle.x25_script.specs.ScriptLine.{PlainCommand, PlainLine, command}
use Rattle.x25_station.specs.declared.config.Cfg.{Cfg}
use Rattle.x25_station.specs.declared.error.StationError.{StationError}
use Rattle.x25_station.specs.declared.error.StationError.TheVariants.{NoMemory}
use Rattle.x25_station.specs.declared.timer.Timer.{Timer}
use Rattle.x25_station.specs.declared.timer.Timer.TheVariants.{Off}
use Rattle.x25_station.specs.Command.{command_of}
use Rattle.x25_station.specs.Config.{Settings, settings_from}
use Rattle.x25_station.specs.Station.{Station, new_station}
use Rattle.x25_station.specs.Step.{Outcome}
use Rattle.x25_station.specs.Timer.{standing}
use Rattle.x25_station.specs.code.FitsStation.{FitsStation, FitsStill, IsEmpty, Leaves, Sends, Enters, Refuses}
use Rattle.x25_station.specs.code.FitsStation.{RefusesOnly}
use Rattle.x25_station.specs.laws.TimerLaw.{StationEvent, Asks, Fires, outcome}
use Rattle.x25_clock.specs.Clock.{seen}
use Rattle.x25_clock.specs.laws.ClockLaw.{comes}
use Rattle.x25_c.specs.Clocked.{Heeds, moment_of}
use Rattle.x25_c.specs.declared.happening.Happening as code
use Rattle.x25_c.specs.declared.happening.Happening.TheVariants as variant
use Rattle.x25_c.specs.declared.held.Held.{Held}
use Rattle.x25_c.specs.Held.{IsAlone}
use Rattle.x25_c.specs.Happening.{happens, may_lack_at, timer_at_both}

abbrev pub event_of : code.Happening → StationEvent
event_of (variant.Asks asked) = Asks (command_of asked)
event_of variant.Fires = Fires

-- at an accepted event T1 becomes what the definition says, and at a refused one it is as it was
abbrev pub IsTimer : Settings → Station → StationEvent → Timer → Result Unit StationError → Outcome → Type 0
IsTimer c s event timer (Ok u) o = timer ≡ timer_at_both c s event o
IsTimer c s event timer (Err e) o = timer ≡ standing s

-- The station does what the definition says of the event and of a pull after it, and what it answers is kept. Its
-- clock heeds both. It is refused with the definition's error, or for want of memory where that may be wanted: then the
-- station and its clock are as before, and nothing is answered.
pub record HappensTo (old new : Held) (result : Result Unit StationError) (event : StationEvent) : Type 0 where
  pub end : new.end ≡ old.end
  pub state : (c : Settings) (s : Station) → FitsStation c old.station s →
      Leaves c new.station result (happens c event s)
  pub frames : (c : Settings) (s : Station) → FitsStation c old.station s →
      Sends c new.step result (happens c event s)
  pub entries : (c : Settings) (s : Station) → FitsStation c old.station s →
      Enters new.step result (happens c event s)
  pub timer : (c : Settings) (s : Station) → FitsStation c old.station s →
      IsTimer c s event new.step.timer result (outcome c s event)
  pub refused : (c : Settings) (s : Station) → FitsStation c old.station s → Refuses result (outcome c s event)
  pub only : may_lack_at event ≡ false → (c : Settings) (s : Station) → FitsStation c old.station s →
      RefusesOnly result (outcome c s event)
  pub stays : (c : Settings) (s : Station) → FitsStation c old.station s → OnErr result (FitsStation c new.station s)
  pub empty : OnErr result (IsEmpty new.step)
  pub time : new.time ≡ old.time
  pub heeded : OnOk result ((c : Settings) (s : Station) → FitsStation c new.station s →
      Heeds (moment_of old.time) (seen c s new.step (comes event)) old.clock new.clock)
  pub unheeded : OnErr result (new.clock ≡ old.clock)

-- memory is refused for what a text spells: nothing happens, and nothing is answered
pub record Lacks (old new : Held) (result : Result Unit StationError) : Type 0 where
  pub refused : result ≡ Err NoMemory
  pub end : new.end ≡ old.end
  pub station : FitsStill old.station new.station
  pub empty : IsEmpty new.step
  pub timer : (c : Settings) (s : Station) → FitsStation c old.station s → new.step.timer ≡ standing s
  pub clock : new.clock ≡ old.clock
  pub time : new.time ≡ old.time

-- a command that a text spells is done
abbrev pub DoesCommand : Held → Held → Result Unit StationError → PlainCommand → Type 0
DoesCommand old new result asked = (HappensTo old new result (Asks (command_asked asked)) ⊎ Lacks old new result)
    × IsAlone new × (new.passed ≡ None)

-- what a line commands
abbrev pub asked_in : Option PlainLine → Option PlainCommand
asked_in (Some (command end asked)) = Some asked
asked_in _ = None

-- a text is answered where it spells a command
abbrev pub GivesAnswer : Held → Held → Option (Result Unit StationError) → Option PlainCommand → Type 0
GivesAnswer old new None None = new ≡ old
GivesAnswer old new None (Some asked) = ⊥
GivesAnswer old new (Some r) None = ⊥
GivesAnswer old new (Some r) (Some asked) = DoesCommand old new r asked

-- a station as it is made: at this end, with these settings, and nothing was answered
pub record IsNew (at : Role) (cfg : Cfg) (h : Held) : Type 0 where
  pub end : h.end ≡ at
  pub fits : FitsStation (settings_from at cfg) h.station new_station
  pub empty : IsEmpty h.step
  pub timer : h.step.timer ≡ Off
  pub alone : IsAlone h
  pub passed : h.passed ≡ None
  pub clock : h.clock ≡ None
  pub time : h.time ≡ None
