-- A route: for the addresses that begin with its prefix, the lines that are tried in turn, and what the prefix becomes.
use Rattle.std.specs.Prelude.{ℕ, List}

pub record PlainRoute : Type 0 where
  pub prefix : List ℕ
  pub becomes : List ℕ
  pub lines : List ℕ
