-- What a world of the code has gone through where it heals, and what was told then.
use Rattle.std.specs.Prelude.{◌≡◌, ℕ, List, ◌++◌, OnOk, Result}
use Rattle.x25_station.specs.declared.config.Cfg.{Cfg}
use Rattle.x25_world.specs.{World.{World, AtEnd, Event, run, AreAccepted}, laws.Claims.{IsBeginning}}
use Rattle.x25_world.specs.{Healing.{healing}, code.PlainTold.{plain_told}, code.ShownWorld.{ShownWorld}}
use Rattle.x25_world.specs.{code.FitsWorld.{FitsWorld, FitsRun, Leaves}, declared.told.Entered.{Entered}}
use Rattle.x25_world.specs.{declared.error.WorldError.{WorldError}, declared.error.WorldError.TheVariants.{NoMemory}}

-- how many deliveries the code lets follow one another at most, and how many rounds of them
abbrev pub most_times : ℕ
most_times = 4294967295

-- a world, and what it told
pub record TellingWorld : Type 0 where
  pub world : ShownWorld
  pub told : List AtEnd

abbrev pub telling : ShownWorld → List Entered → TellingWorld
telling v told = record { world = v; told = plain_told told }

-- it stands for this world, and it told all but these entries before
pub record Tells (cfg : Cfg) (v : TellingWorld) (w : World) (before : List AtEnd) : Type 0 where
  pub fits : FitsWorld cfg v.world w
  pub told : w.transcript ≡ before ++ v.told

-- by these events, each accepted, this world led to one that it stands for
pub record GoesBy (cfg : Cfg) (events : List Event) (w : World) (v : TellingWorld) (before : List AtEnd) : Type 0 where
  pub accepted : AreAccepted cfg events w
  pub fits : Tells cfg v (run cfg events w) before

-- memory was refused, and only the first of the events have happened
pub record GoesPartly (cfg : Cfg) (events : List Event) (w : World) (v : TellingWorld) (before : List AtEnd)
    (error : WorldError) : Type 0 where
  pub memory : error ≡ NoMemory
  pub done : List Event
  pub left : List Event
  pub all : events ≡ done ++ left
  pub goes : GoesBy cfg done w v before

-- Where events led to the world before, and it healed, this holds of the world before and of the one that is left.
abbrev pub HoldsHealed : (Cfg → World → World → Type 0) → {T : Type 0} → ShownWorld → ShownWorld → Result T WorldError
    → Type 0
HoldsHealed Holds old new result =
    (cfg : Cfg) (from : World) (past : List Event) → IsBeginning cfg from → FitsRun cfg from old past
    → (let w = run cfg past from in OnOk result (Leaves (λ (c : Cfg) (u : World). Holds c w u) cfg from new
    (past ++ healing cfg most_times w)))
