use Rattle.x25_circuit.proofs.Names.{ℕ, Bool, ◌≡◌, true, false, not, ◌&&◌, ◌==◌, sym, ap, ◌∙◌, is_any, waits}
use Rattle.std.proofs.Common.{ap₂}
use Rattle.x25_circuit.specs.Circuit.{awaited_by, is_unacknowledged}
use Rattle.x25_circuit.proofs.circuit.Circuit.is_idle.Goals as goal

pub returns-then-is_any-clause-value : goal.returns-then-is_any-clause-value
returns-then-is_any-clause-value c = λ d x fits.
    let is : is_any (awaited_by x) ≡ true = sym (c.is_any.ensures ∙ ap is_any (c.awaits.ensures d x fits)) ∙ c.if-is_any.true in
    sym (ap (λ (b : Bool). not b && ((waits x == 0) && not (is_unacknowledged x))) is)

pub returns-clause-value : goal.returns-clause-value
returns-clause-value c = λ d x fits.
    let is : is_any (awaited_by x) ≡ false = sym (c.is_any.ensures ∙ ap is_any (c.awaits.ensures d x fits)) ∙ c.if-is_any.false in
    ap₂ (λ (n : ℕ) (b : Bool). (n == 0) && not b) (c.waits.ensures.value d x fits) (c.is_unacknowledged.ensures d x fits)
    ∙ sym (ap (λ (b : Bool). not b && ((waits x == 0) && not (is_unacknowledged x))) is)
