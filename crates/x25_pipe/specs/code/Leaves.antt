-- What is left of a turn that is made in parts.
use Rattle.std.specs.Prelude.{◌≡◌, ℕ, Bool, ◌||◌, List, ◌++◌, Option}
use Rattle.x25_station.specs.Config.{Settings}
use Rattle.x25_station.specs.Station.{Station}
use Rattle.x25_pipe.specs.Pipe.{Turn, sayings_text, has_refusal}
use Rattle.x25_pipe.specs.code.Stands.{Stands}
use Rattle.x25_pipe.specs.declared.pipe.Pipe.{Pipe}

-- From where it stands, `rest` leads to where the whole turn leads that began behind `told`, with the same said in all.
pub record Leaves (c : Settings) (old now : Option (List ℕ)) (p : Pipe) (rest : Station
    → Turn) (told : List ℕ) (refused : Bool) (whole : Turn) : Type 0 where
  pub at : Station
  pub text : List ℕ
  pub status : Bool
  pub stands : Stands c old now p at text status
  pub next : (rest at).next ≡ whole.next
  pub same : text ++ sayings_text c.role (rest at).sayings ≡ told ++ sayings_text c.role whole.sayings
  pub any : (status || has_refusal (rest at).sayings) ≡ (refused || has_refusal whole.sayings)
