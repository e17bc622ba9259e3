-- In which states the message in part has its memory.
use Rattle.std.specs.Prelude.{Bool, true, false}
use Rattle.x25_circuit.specs.declared.state.State.{State}
use Rattle.x25_circuit.specs.declared.state.State.TheVariants.{Free, Arriving, Clearing}

-- in a call that this end made or accepted
abbrev pub has_memory : State → Bool
has_memory Free = false
has_memory Arriving = false
has_memory Clearing = false
has_memory state = true
