-- The messages that wait in a relay.
use Rattle.std.specs.Prelude.{List}
use Rattle.x25_circuit.specs.Message.{Message}
use Rattle.x25_relay.specs.declared.relay.Relay.{Relay}

abbrev pub waiting : Relay → List Message
waiting r = r.ring.items
