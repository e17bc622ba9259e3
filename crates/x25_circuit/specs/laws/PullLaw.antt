-- What may be pulled.
use Rattle.std.specs.Prelude.{◌≡◌}
use Rattle.x25_circuit.specs.declared.circuit.Circuit as code
use Rattle.x25_circuit.specs.Circuit.{CircuitSettings, Circuit}
use Rattle.x25_circuit.specs.Calling.{pulled, pulls_nothing}
use Rattle.x25_circuit.specs.code.FitsCircuit.{FitsCircuit, waits_of}

-- where no message waits, a pull gives nothing
abbrev pub PullsWhatWaits : Type 0
PullsWhatWaits = (c : CircuitSettings) (v : code.Circuit) (x : Circuit) → FitsCircuit c v x → waits_of v ≡ 0
    → pulled c x ≡ pulls_nothing x
