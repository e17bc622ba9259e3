use Rattle.x25_layer.proofs.Names.{List, subst, sym, ◌∙◌, IdleBeside}
use Rattle.x25_circuit.specs.declared.circuit.Circuit as circuit_code
use Rattle.x25_layer.proofs.layer.Layer.with.Goals as goal

pub invariant_of-result-clause-still : goal.invariant_of-result-clause-still
invariant_of-result-clause-still c = subst (λ (vs : List circuit_code.Circuit). IdleBeside c.note_all.new.self.words.items vs) c.deref.ensures.value
    c.note_all.ensures.idle

pub invariant_of-result-clause-places : goal.invariant_of-result-clause-places
invariant_of-result-clause-places c = c.note_all.ensures.places ∙ c.in_ok-busy.ensures.places ∙ sym c.from-count.ensures ∙ sym c.in_ok-circuits.ensures.count
