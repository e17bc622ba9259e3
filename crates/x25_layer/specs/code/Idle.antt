-- In which circuits nothing is under way.
use Rattle.std.specs.Prelude.{◌≡◌, ℕ, suc, ◌/◌, ◌%◌, List, Some, false, slice_get, slice_index}
use Rattle.std.specs.Int.{bit_at}
use Rattle.x25_circuit.specs.declared.circuit.Circuit as circuit_code
use Rattle.x25_circuit.specs.Awaits.{is_any}
use Rattle.x25_circuit.specs.Circuit.{CircuitSettings, Circuit, awaited_by, is_unacknowledged, waits}
use Rattle.x25_circuit.specs.code.FitsCircuit.{FitsCircuit, waits_of}

-- a channel is none of these, for each of which a bit is set, in words of 64
abbrev pub IsOutside : List ℕ → ℕ → Type 0
IsOutside words h = bit_at (slice_index words (h / 64)) (h % 64) ≡ 0

-- no message waits in a circuit, no answer is awaited, and no data packet isn't acknowledged
pub record IsIdle (v : circuit_code.Circuit) : Type 0 where
  pub none : waits_of v ≡ 0
  pub waits : (c : CircuitSettings) (x : Circuit) → FitsCircuit c v x → waits x ≡ 0
  pub awaits : (c : CircuitSettings) (x : Circuit) → FitsCircuit c v x → is_any (awaited_by x) ≡ false
  pub acknowledged : (c : CircuitSettings) (x : Circuit) → FitsCircuit c v x → is_unacknowledged x ≡ false

-- the circuits of the other channels are idle
abbrev pub IdleBeside : List ℕ → List circuit_code.Circuit → Type 0
IdleBeside words vs = (k : ℕ) (v : circuit_code.Circuit) → slice_get vs k ≡ Some v → IsOutside words (suc k) → IsIdle v
