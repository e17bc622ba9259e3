use Rattle.x25_circuit.specs.Circuit.{unconfirmed}
use Rattle.x25_layer.{proofs.Names.{◌≡◌, ℕ, Bool, true, if◌then◌else◌, sym, ap, subst, ◌∙◌, is_number}, specs.Ranges.{is_channel}}
use Rattle.x25_layer.proofs.layer.Layer.unconfirmed.Goals as goal

pub returns-in-Some : goal.returns-in-Some
returns-in-Some c = λ s l fits.
    let h = c.args.channel in
    let count : ℕ = unconfirmed (l.circuits h) in
    let is : is_channel s.channels h ≡ true = subst (λ (n : ℕ). is_number n h ≡ true) fits.channels c.in-Some.ensures.some in
    c.unconfirmed.ensures.value s.circuit (l.circuits h) (c.in-Some.ensures.fits s l fits) ∙ sym (ap (λ (b : Bool). if b then count else 0) is)
