-- What waits, lent.
use Rattle.std.specs.Prelude.{ℕ, List}
use Rattle.std.specs.Borrow.{Fml, Lends, MutBor}
use Rattle.x25_io.specs.contracts.output.Output.{the_row}
use Rattle.x25_text.specs.contracts.text.Text.{the_row as text}

-- what stands behind the reference in the end waits then
abbrev pub LendsText : MutBor (List ℕ) → MutBor (List ℕ) → Fml
LendsText output lent = Lends the_row text output lent (λ waiting. waiting)
