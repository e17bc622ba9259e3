use Rattle.x25_layer.proofs.Names.{◌≡◌, ◌∙◌, ℕ, ◌≤◌, length, refl, sym, ap, subst, List, arith, restart_cause, IdleBeside, restart, spelling_of}
use Rattle.x25_circuit.specs.declared.circuit.Circuit as circuit_code
use Rattle.x25_layer.proofs.layer.Layer.up.Goals as goal

pub returns-clause-layer : goal.returns-clause-layer
returns-clause-layer c = λ s l fits. record {
  role = fits.role;
  long_data = fits.long_data;
  message = fits.message;
  ranges = fits.ranges;
  channels = c.begin_all.ensures.count ∙ fits.channels;
  restarting = refl;
  restarts = refl;
  circuits = c.begin_all.ensures.fits s l.circuits fits.circuits;
}

pub returns-clause-put : goal.returns-clause-put
returns-clause-put c = λ s l fits.
    let cause : c.restart_cause.result ≡ restart_cause s.circuit.role =
    subst (λ r. c.restart_cause.result ≡ restart_cause r) fits.role c.restart_cause.ensures in
    c.spell.ensures.put ∙ ap (λ (n : ℕ). spelling_of (restart n 0)) cause

pub returns-clause-short : goal.returns-clause-short
returns-clause-short c = subst (λ (octets : List ℕ). length octets ≤ 260) (sym c.spell.ensures.put) (omega arith)

pub invariant_of-self-clause-still : goal.invariant_of-self-clause-still
invariant_of-self-clause-still c = subst (λ (vs : List circuit_code.Circuit). IdleBeside c.note_all.new.self.words.items vs) c.deref.ensures.value
    c.note_all.ensures.idle

pub invariant_of-self-clause-places : goal.invariant_of-self-clause-places
invariant_of-self-clause-places c = c.note_all.ensures.places ∙ c.args.self.now.places ∙ sym c.begin_all.ensures.count
