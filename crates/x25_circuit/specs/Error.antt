-- The number of each refusal of a circuit (profile).
use Rattle.std.specs.Prelude.{ℕ}
use Rattle.x25_circuit.specs.declared.error.CircuitError.{CircuitError}
use Rattle.x25_circuit.specs.declared.error.CircuitError.TheVariants.{WrongState, Full, TooLong, InterruptOutstanding}
use Rattle.x25_circuit.specs.declared.error.CircuitError.TheVariants.{BadParameter, NoMemory}

abbrev pub number_of : CircuitError → ℕ
number_of WrongState = 30
number_of Full = 31
number_of TooLong = 32
number_of InterruptOutstanding = 33
number_of BadParameter = 34
number_of NoMemory = 70
