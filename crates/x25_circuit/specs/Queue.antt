-- The messages that wait: the one that is cut, and those behind it.
use Rattle.std.specs.Prelude.{List, ◌++◌}
use Rattle.x25_circuit.specs.Message.{Message}
use Rattle.x25_circuit.specs.declared.queue.Queue.{Queue}

abbrev pub waiting : Queue → List Message
waiting q = q.cutter.left ++ q.ring.items
