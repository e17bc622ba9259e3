-- What the simulator holds in the midst of a script: a world of which it told all, and what it told.
use Rattle.std.specs.Prelude.{◌≡◌, ℕ, Bool, true, false, ◌||◌, List, ◌++◌, Option, Result, MatchResult}
use Rattle.x25_station.specs.declared.config.Cfg.{Cfg}
use Rattle.x25_world.specs.World.{World, start, connected}
use Rattle.x25_world.specs.code.FitsWorld.{FitsWorld}
use Rattle.x25_io.specs.code.Written.{AppendsPrefix, Tells}
use Rattle.x25_io.specs.declared.fault.Fault.{Fault}
use Rattle.x25_sim.specs.Telling.{sayings_text, has_refusal}
use Rattle.x25_sim.specs.Stage.{Turn}
use Rattle.x25_sim.specs.declared.stage.Shown.{Shown}
use Rattle.x25_sim.specs.declared.stage.Stage.{Stage}

-- The writer held `old` at first and holds `now`.
pub record Stands (cfg : Cfg) (shown : Shown) (old now : Option (List ℕ)) (s : Stage) (w : World) (told : List ℕ)
    (refused : Bool) : Type 0 where
  pub fits : FitsWorld cfg s.world w
  pub asked : s.shown ≡ shown
  pub tells : Tells old now s.output told
  pub status : s.is_refused ≡ refused

-- the world at first: both links are down, or the DTE has asked that the link be set up
abbrev pub opening : Cfg → Bool → World
opening cfg true = start
opening cfg false = connected cfg

-- it holds that world, and nothing was told
unfoldable pub IsOpening : Cfg → Bool → Stage → Type 0
IsOpening cfg down s = FitsWorld cfg s.world (opening cfg down)

-- of a turn: it is told, or at a fault a beginning is written
abbrev pub Stood : Cfg → Shown → Option (List ℕ) → Option (List ℕ) → Stage → List ℕ → Bool → Result Unit Fault → Turn
    → Type 0
Stood cfg shown old now s told refused result t =
    MatchResult result (λ _. Stands cfg shown old now s t.next (told ++ sayings_text t.sayings) (refused
    || has_refusal t.sayings))
    (λ _. AppendsPrefix old now (told ++ sayings_text t.sayings))

-- from each world that it stands for, the turn is made
abbrev pub Turns : Cfg → Shown → Option (List ℕ) → Option (List ℕ) → Option (List ℕ) → Stage → Stage → Result Unit Fault
    → (World → Turn) → Type 0
Turns cfg shown old now next s u result turn = (w : World) (told : List ℕ) (refused : Bool)
    → Stands cfg shown old now s w told refused
    → Stood cfg shown old next u told refused result (turn w)
