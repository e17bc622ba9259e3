-- What is left of a turn that is made in parts.
use Rattle.std.specs.Prelude.{◌≡◌, ℕ, Bool, ◌||◌, List, ◌++◌, Option}
use Rattle.x25_station.specs.declared.config.Cfg.{Cfg}
use Rattle.x25_world.specs.World.{World}
use Rattle.x25_sim.specs.Telling.{sayings_text, has_refusal}
use Rattle.x25_sim.specs.Stage.{Turn}
use Rattle.x25_sim.specs.code.Stands.{Stands}
use Rattle.x25_sim.specs.declared.stage.Shown.{Shown}
use Rattle.x25_sim.specs.declared.stage.Stage.{Stage}

-- From where the simulator stands, `rest` leads to where the whole turn leads that began behind `told`, with the same
-- said in all.
pub record Leaves (cfg : Cfg) (shown : Shown) (old now : Option (List ℕ)) (s : Stage) (rest : World
    → Turn) (told : List ℕ) (refused : Bool) (whole : Turn) : Type 0 where
  pub at : World
  pub text : List ℕ
  pub status : Bool
  pub stands : Stands cfg shown old now s at text status
  pub next : (rest at).next ≡ whole.next
  pub same : text ++ sayings_text (rest at).sayings ≡ told ++ sayings_text whole.sayings
  pub any : (status || has_refusal (rest at).sayings) ≡ (refused || has_refusal whole.sayings)
