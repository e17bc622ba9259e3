-- The number of each refusal of a layer (profile), and its error for one of a circuit.
use Rattle.std.specs.Prelude.{ℕ}
use Rattle.x25_circuit.specs.Error as circuit
use Rattle.x25_circuit.specs.declared.error.CircuitError.{CircuitError}
use Rattle.x25_circuit.specs.declared.error.CircuitError.TheVariants as circuit_error
use Rattle.x25_layer.specs.declared.error.LayerError.{LayerError}
use Rattle.x25_layer.specs.declared.error.LayerError.TheVariants.{NotUp, QueueFull, BadConfig, Restarting}
use Rattle.x25_layer.specs.declared.error.LayerError.TheVariants.{NoFreeChannel, NoSuchChannel, Circuit, NoMemory}

abbrev pub number_of : LayerError → ℕ
number_of NotUp = 9
number_of QueueFull = 10
number_of BadConfig = 14
number_of Restarting = 40
number_of NoFreeChannel = 41
number_of NoSuchChannel = 42
number_of (Circuit error) = circuit.number_of error
number_of NoMemory = 70

-- want of memory is the layer's own
abbrev pub of_circuit : CircuitError → LayerError
of_circuit circuit_error.NoMemory = NoMemory
of_circuit e = Circuit e
