use Rattle.x25_layer.proofs.Names.{◌≡◌, ℕ, suc, ◌<◌, Some, slice_get, IsOutside, IsIdle}
use Rattle.x25_circuit.specs.declared.circuit.Circuit as circuit_code
use Rattle.x25_layer.proofs.busy.Busy.note_all.Given as goal

abbrev pub invariant-loop-circuit : goal.invariant-loop-circuit
invariant-loop-circuit l = record {
  channel : l.channel ≡ l.circuit-index;
  places : l.self.count ≡ l.initial.self.count;
  idle : (k : ℕ) (v : circuit_code.Circuit) → k < l.circuit-index → slice_get l.circuits k ≡ Some v → IsOutside l.self.words.items (suc k) → IsIdle v;
}
