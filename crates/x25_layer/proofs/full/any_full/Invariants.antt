use Rattle.x25_layer.proofs.Names.{◌≡◌, ℕ, ◌<◌, Some, false, slice_get, Circuit, HasCountsLeft, LayerSettings, FitsCircuits, full_up_to}
use Rattle.x25_circuit.specs.declared.circuit.Circuit as circuit_code
use Rattle.x25_layer.proofs.full.any_full.Given as goal

-- no count of the circuits so far is at its most
abbrev pub invariant-loop-circuit : goal.invariant-loop-circuit
invariant-loop-circuit l = record {
  value : (c : LayerSettings) (f : ℕ → Circuit) → FitsCircuits c l.circuits f → full_up_to f l.circuit-index ≡ false;
  left : (k : ℕ) (v : circuit_code.Circuit) → k < l.circuit-index → slice_get l.circuits k ≡ Some v → HasCountsLeft v;
}
