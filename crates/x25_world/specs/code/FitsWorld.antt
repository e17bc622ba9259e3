-- The worlds of the definition that a world of the code stands for.
use Rattle.std.specs.Prelude.{◌≡◌, ℕ, List, [], ◌∷◌, ◌++◌, Option, Some, None, ◌⊎◌, Result, Ok, Err, OnOk, IfErr}
use Rattle.std.specs.Prelude.{Bool, ◌≤◌, OnErr, IsErrOf, length}
use Rattle.x25_bits.specs.{HarmlessBits.{IsHarmless}, Role.{other}, declared.direction.Direction.{Direction}}
use Rattle.x25_bits.specs.{declared.role.Role.{Role}, declared.role.Role.TheVariants.{Dte, Dce}}
use Rattle.x25_station.specs.{declared.config.Cfg.{Cfg}, declared.error.StationError.{StationError}}
use Rattle.x25_station.specs.{declared.station.Station.{Station}, declared.step.Step.{Step}}
use Rattle.x25_station.specs.{Config.{settings_from, config_refusal}, code.FitsStation.{FitsStation}}
use Rattle.x25_world.specs.World.{AtEnd, World, Event, Act, Loses, WorldOutcome, Happened, Declined, happens}
use Rattle.x25_world.specs.World.{refusal_of, after, run, AreAccepted, established}
use Rattle.x25_world.specs.laws.Claims.{AreInOctets, IsUpOnce, IsUpAtMostOnce, IsBeginning, NoneConnects}
use Rattle.x25_world.specs.laws.Claims.{IsLawful, IsNamed, ArrivesAll}
use Rattle.x25_world.specs.laws.SessionClaims.{SessionsKeepOrder}
use Rattle.x25_world.specs.laws.{BesideClaims.{BesideIsGiven}, ConfirmedClaims.{ConfirmedAreHandedUp}}
use Rattle.x25_world.specs.laws.SessionWindow.{StaysInWindow, SessionsStayInWindow}
use Rattle.x25_world.specs.{code.ShownLine.{ShownLine, line_to}, BitDamage.{bit_damage, RefusesBits}}
use Rattle.x25_world.specs.code.ShownWorld.{ShownWorld, line_of, TakesFewPlaces}
use Rattle.x25_world.specs.declared.error.WorldError.{WorldError}
use Rattle.x25_world.specs.declared.error.WorldError.TheVariants.{BadConfig, NoMemory}

-- the stations stand for those of the world, and the line is its line
pub record FitsWorld (cfg : Cfg) (v : ShownWorld) (w : World) : Type 0 where
  pub dte : FitsStation (settings_from Dte cfg) v.dte w.near
  pub dce : FitsStation (settings_from Dce cfg) v.dce w.far
  pub to_dce : v.to_dce ≡ w.out
  pub to_dte : v.to_dte ≡ w.back

-- an event is refused by its ground alone, or for want of memory
abbrev pub IsRefusal : Cfg → World → Event → WorldError → Type 0
IsRefusal cfg w e error = (refusal_of (happens cfg w e) ≡ Some error) ⊎ (error ≡ NoMemory)

-- want of memory refuses no loss
abbrev pub TakesMemory : Act → Type 0
TakesMemory (Loses place) = ⊥
TakesMemory act = Unit {0}

-- how many entries it tells at most
abbrev pub most_told : Act → ℕ
most_told (Loses place) = 0
most_told act = 3

-- ---- the step of a call

-- Its frames are on the line, where it is refused it told nothing, and it told at most so many entries.
pub record IsStepOf {T : Type 0} (result : Result T WorldError) (out : Step) (most : ℕ) : Type 0 where
  pub sent : out.frames ≡ []
  pub untold : OnErr result (out.entries.items ≡ [])
  pub few : length out.entries.items ≤ most

-- and 70 comes only where this takes memory
pub record IsStepOfAct {T : Type 0} (result : Result T WorldError) (out : Step) (act : Act) : Type 0 where
  pub step : IsStepOf result out (most_told act)
  pub memory : IsErrOf result NoMemory → TakesMemory act

-- ---- a run

-- Events that are accepted, from a world, lead to one that it stands for. The settings are in their ranges, and what
-- users hand down is octets.
pub record FitsRun (cfg : Cfg) (from : World) (v : ShownWorld) (events : List Event) : Type 0 where
  pub settings : config_refusal cfg ≡ None
  pub octets : AreInOctets events
  pub accepted : AreAccepted cfg events from
  pub fits : FitsWorld cfg v (run cfg events from)

-- the events of a run with one more, where it is accepted
abbrev pub and_then : List Event → Event → Result (Unit {0}) WorldError → List Event
and_then events e (Ok done) = events ++ e ∷ []
and_then events e (Err error) = events

-- These events lead here, and this holds of the world that they lead to.
pub record Leaves (Holds : Cfg → World → Type 0) (cfg : Cfg) (from : World) (v : ShownWorld) (events : List Event)
    : Type 0 where
  pub fits : FitsRun cfg from v events
  pub holds : Holds cfg (run cfg events from)

-- ---- what is claimed of a run from any of the three beginnings

-- These events lead here. Up to the moment at which an end goes up a second time `lawful`, `named` and `arrives` hold,
-- and from a link just set up `window`; `up_once` from there, where no `connect` is accepted; of each run, also where
-- the link is set up anew, `sessions`, `links`, `beside` and `confirmed`.
pub record RunHolds (cfg : Cfg) (from : World) (v : ShownWorld) (events : List Event) : Type 0 where
  pub fits : FitsRun cfg from v events
  pub lawful : IsUpAtMostOnce cfg (run cfg events from) → IsLawful cfg (run cfg events from)
  pub named : IsUpAtMostOnce cfg (run cfg events from) → IsNamed cfg (run cfg events from)
  pub arrives : IsUpAtMostOnce cfg (run cfg events from) → ArrivesAll cfg (run cfg events from)
  pub window : from ≡ established cfg → IsUpOnce cfg (run cfg events from)
      → StaysInWindow cfg events (run cfg events from)
  pub up_once : from ≡ established cfg → NoneConnects cfg events from → IsUpOnce cfg (run cfg events from)
  pub sessions : SessionsKeepOrder cfg (run cfg events from)
  pub links : SessionsStayInWindow cfg from events (run cfg events from)
  pub beside : BesideIsGiven cfg from events (run cfg events from)
  pub confirmed : ConfirmedAreHandedUp cfg (run cfg events from)

abbrev pub EachRunHolds : Type 0
EachRunHolds = (cfg : Cfg) (from : World) (v : ShownWorld) (events : List Event) → IsBeginning cfg from
    → FitsRun cfg from v events → RunHolds cfg from v events

-- The world that is left is that of a run, of which all this holds.
pub record Claims (old new : ShownWorld) (more : List Event → List Event) : Type 0 where
  pub run : (cfg : Cfg) (from : World) (past : List Event) → FitsRun cfg from old past →
      FitsRun cfg from new (more past)
  pub holds : (cfg : Cfg) (from : World) (past : List Event) → IsBeginning cfg from → FitsRun cfg from old past
      → RunHolds cfg from new (more past)

-- the same of a world that was just made, from where its runs begin, at which neither end went up a second time
pub record ClaimsOfNew (cfg : Cfg) (from : World) (v : ShownWorld) : Type 0 where
  pub once : IsUpAtMostOnce cfg from
  pub holds : RunHolds cfg from v []

-- ---- an end and what it shares with the other; the other end is as it was

-- the near end of the world is this one
pub record FitsSide (cfg : Cfg) (at : Role) (end : Station) (line : ShownLine) (w : World) : Type 0 where
  pub near : FitsStation (settings_from at cfg) end w.near
  pub out : line_to line (other at) ≡ w.out
  pub back : line_to line at ≡ w.back

-- the act happened, and told this
abbrev pub HasHappened : Cfg → Role → Station → ShownLine → List AtEnd → World → WorldOutcome → Type 0
HasHappened cfg at near line told w (Happened next) =
    FitsSide cfg at near line next × (next.transcript ≡ w.transcript ++ told)
HasHappened cfg at near line told w (Declined e) = ⊥

-- an act of an end that is accepted has happened, and told this, and one that is refused is refused by its ground, or
-- for want of memory, and changes nothing
pub record HasActed (cfg : Cfg) (at : Role) (near : Station) (line : ShownLine) (told : List AtEnd)
    (result : Result (Unit {0}) WorldError) (w : World)
    (outcome : WorldOutcome) : Type 0 where
  pub happened : OnOk result (HasHappened cfg at near line told w outcome)
  pub refused : IfErr result (λ e. (refusal_of outcome ≡ Some e) ⊎ (e ≡ NoMemory))
  pub stays : OnErr result (FitsSide cfg at near line w)

-- ---- both ends

-- an event that is accepted has happened, and told this, and one that is refused changes nothing
pub record HasActedAt (cfg : Cfg) (v : ShownWorld) (told : List AtEnd) (result : Result (Unit {0}) WorldError)
    (w : World) (e : Event) : Type 0 where
  pub happened : OnOk result (FitsWorld cfg v (after w (happens cfg w e)))
  pub tells : OnOk result ((after w (happens cfg w e)).transcript ≡ w.transcript ++ told)
  pub accepted : OnOk result (refusal_of (happens cfg w e) ≡ None)
  pub refused : IfErr result (IsRefusal cfg w e)
  pub stays : OnErr result (FitsWorld cfg v w)

-- These bits come between the flags of a frame, which is damage by octets, or they are refused and nothing changes.
pub record DamagesBits (old new : ShownWorld) (result : Result (Unit {0}) WorldError) (direction : Direction)
    (place : ℕ) (bits : List Bool) : Type 0 where
  pub step : (cfg : Cfg) (w : World) → FitsWorld cfg old w
      → OnOk result (FitsWorld cfg new (after w (happens cfg w (bit_damage direction place bits))))
  pub accepted : (cfg : Cfg) (w : World) → FitsWorld cfg old w
      → OnOk result (refusal_of (happens cfg w (bit_damage direction place bits)) ≡ None)
  pub harmless : OnOk result (IsHarmless bits)
  pub refused : (cfg : Cfg) (w : World) → FitsWorld cfg old w
      → IfErr result (RefusesBits (line_of old direction) place bits)
  pub stays : (cfg : Cfg) (w : World) → FitsWorld cfg old w → OnErr result (FitsWorld cfg new w)
  pub places : TakesFewPlaces old new

-- ---- a new world

-- refused with 14 where a setting is out of its range, and else with 70 alone
abbrev pub RefusesConfig : {T : Type 0} → Result T WorldError → Option StationError → Type 0
RefusesConfig result None = IfErr result (λ e. e ≡ NoMemory)
RefusesConfig result (Some e) = result ≡ Err BadConfig
