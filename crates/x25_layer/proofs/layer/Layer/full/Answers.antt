use Rattle.x25_layer.proofs.Names.{◌≡◌, ◌∙◌, ℕ, ◌^◌, ◌-◌, ◌==◌, ◌||◌, List, length, Bool, false, sym, ap, subst, arith, FitsCircuits, full_up_to}
use Rattle.x25_layer.proofs.FitLemmas.{none_full}
use Rattle.x25_layer.proofs.SettleLemmas.{not_same}
use Rattle.x25_circuit.specs.declared.circuit.Circuit as circuit_code
use Rattle.x25_layer.proofs.layer.Layer.full.Goals as goal

pub returns-else-self-2-clause-value : goal.returns-else-self-2-clause-value
returns-else-self-2-clause-value c = λ s l fits.
    let value = c.deref.ensures.value in
    let restarts = fits.restarts in
    let least : (l.restarts == 2 ^ 64 - 1) ≡ false = not_same l.restarts (2 ^ 64 - 1) (λ most. grind (arith, most, restarts, c.if-self-2.false)) in
    c.any_full.ensures.value s l.circuits (subst (λ (vs : List circuit_code.Circuit). FitsCircuits s vs l.circuits) (sym value) fits.circuits)
    ∙ ap (λ (n : ℕ). full_up_to l.circuits n) (ap (λ (vs : List circuit_code.Circuit). length vs) value ∙ fits.channels)
    ∙ sym (ap (λ (b : Bool). b || full_up_to l.circuits s.channels.count) least)

-- ---- where it is known that none is

pub returns-then-self-clause-value : goal.returns-then-self-clause-value
returns-then-self-clause-value c = λ s l fits.
    let here = c.args.self.now.restarts_left c.if-self.true in
    let restarts = fits.restarts in
    let channels = fits.channels in
    let least : (l.restarts == 2 ^ 64 - 1) ≡ false = not_same l.restarts (2 ^ 64 - 1) (λ most. omega (arith, most, restarts, here)) in
    sym (ap (λ (b : Bool). b || full_up_to l.circuits s.channels.count) least
    ∙ none_full s c.args.self.now.circuits.items l.circuits s.channels.count (omega (arith, channels)) fits.circuits
    (c.args.self.now.circuits_left c.if-self.true))

pub returns-then-self-clause-left : goal.returns-then-self-clause-left
returns-then-self-clause-left c = λ is. record {
  restarts = c.args.self.now.restarts_left c.if-self.true;
  circuits = c.args.self.now.circuits_left c.if-self.true;
}
