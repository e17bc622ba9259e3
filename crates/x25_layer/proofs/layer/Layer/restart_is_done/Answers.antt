use Rattle.x25_layer.proofs.Names.{◌≡◌, suc, ◌+◌, ◌∙◌, refl, arith, List, subst, sym, IdleBeside}
use Rattle.x25_circuit.specs.declared.circuit.Circuit as circuit_code
use Rattle.x25_layer.proofs.layer.Layer.restart_is_done.Goals as goal

pub returns-clause-layer : goal.returns-clause-layer
returns-clause-layer c = λ s l fits. record {
  role = fits.role;
  long_data = fits.long_data;
  message = fits.message;
  ranges = fits.ranges;
  channels = c.begin_all.ensures.count ∙ fits.channels;
  restarting = refl;
  restarts = (let same = fits.restarts in let e : c.args.self.now.restarts + 1 ≡ suc l.restarts = omega (arith, same) in e);
  circuits = c.begin_all.ensures.fits s l.circuits fits.circuits;
}

pub invariant_of-self-clause-still : goal.invariant_of-self-clause-still
invariant_of-self-clause-still c = subst (λ (vs : List circuit_code.Circuit). IdleBeside c.note_all.new.self.words.items vs) c.deref.ensures.value
    c.note_all.ensures.idle

pub invariant_of-self-clause-places : goal.invariant_of-self-clause-places
invariant_of-self-clause-places c = c.note_all.ensures.places ∙ c.args.self.now.places ∙ sym c.begin_all.ensures.count
