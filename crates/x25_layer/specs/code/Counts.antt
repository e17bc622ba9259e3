-- Counts that aren't at their most.
use Rattle.std.specs.Prelude.{◌≡◌, ℕ, ◌<◌, ◌^◌, ◌-◌, List, Some, slice_get}
use Rattle.x25_circuit.specs.declared.circuit.Circuit as circuit_code
use Rattle.x25_circuit.specs.code.FitsCircuit.{clears_of, resets_of}

-- neither count of a circuit is at its most
pub record HasCountsLeft (v : circuit_code.Circuit) : Type 0 where
  pub clears : clears_of v < 2 ^ 64 - 1
  pub resets : resets_of v < 2 ^ 64 - 1

abbrev pub HaveCountsLeft : List circuit_code.Circuit → Type 0
HaveCountsLeft vs = (k : ℕ) (v : circuit_code.Circuit) → slice_get vs k ≡ Some v → HasCountsLeft v
