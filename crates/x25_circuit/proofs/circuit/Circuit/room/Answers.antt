use Rattle.x25_circuit.proofs.Names.{◌∙◌, ℕ, ◌-◌, Bool, if◌then◌else◌, sym, ap, waits}
use Rattle.x25_circuit.proofs.circuit.Circuit.room.Goals as goal

pub returns-then-not-is_open-clause-value : goal.returns-then-not-is_open-clause-value
returns-then-not-is_open-clause-value c = λ s x fits. sym
    (ap (λ (b : Bool). if b then 8 - waits x else 0) (sym (c.is_open.ensures s x fits) ∙ c.if-not-is_open.true))

pub returns-clause-value : goal.returns-clause-value
returns-clause-value c = λ s x fits.
    ap (λ (n : ℕ). 8 - n) (c.waits.ensures.value s x fits)
    ∙ sym (ap (λ (b : Bool). if b then 8 - waits x else 0) (sym (c.is_open.ensures s x fits) ∙ c.if-not-is_open.false))
