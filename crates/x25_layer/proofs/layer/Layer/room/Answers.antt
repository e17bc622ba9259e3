use Rattle.x25_circuit.specs.Circuit.{message_room}
use Rattle.x25_layer.{proofs.Names.{◌≡◌, ◌∙◌, ℕ, Bool, true, if◌then◌else◌, sym, ap, subst, is_number}, specs.Ranges.{is_channel}}
use Rattle.x25_layer.proofs.layer.Layer.room.Goals as goal

pub returns-in-Some-clause-value : goal.returns-in-Some-clause-value
returns-in-Some-clause-value c = λ s l fits.
    let h = c.args.channel in
    let room : ℕ = message_room (l.circuits h) in
    let is : is_channel s.channels h ≡ true = subst (λ (n : ℕ). is_number n h ≡ true) fits.channels c.in-Some.ensures.some in
    c.room.ensures.value s.circuit (l.circuits h) (c.in-Some.ensures.fits s l fits)
    ∙ sym (ap (λ (b : Bool). if b then 0 else (if is_channel s.channels h then room else 0)) (sym fits.restarting ∙ c.if-self.false)
    ∙ ap (λ (b : Bool). if b then room else 0) is)
