-- A text in pieces, as lines.
use Rattle.std.specs.Prelude.{ℕ, List, ◌++◌}
use Rattle.x25_io.specs.HeldLine.{HoldsLine}
use Rattle.x25_io.specs.declared.held_line.HeldLine.{HeldLine}
use Rattle.x25_io.specs.Lines.{IsOpen, lines_of}

-- A line has begun, and with `rest` to come it stands as before the lines of both.
pub record LinesLead (Stands : List (List ℕ) → Type 0) (held : HeldLine) (rest : List ℕ) : Type 0 where
  pub begun : List ℕ
  pub is_open : IsOpen begun
  pub holds : HoldsLine begun held
  pub stands : Stands (lines_of (begun ++ rest))

-- All is written but what the line that has begun and the rest give.
pub record LinesEnded (Ended : List (List ℕ) → Type 0) (rest : List ℕ) : Type 0 where
  pub begun : List ℕ
  pub is_open : IsOpen begun
  pub ended : Ended (lines_of (begun ++ rest))
