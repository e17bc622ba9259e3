-- What a station holds at most (profile).
use Rattle.std.specs.Prelude.{◌≡◌, ℕ, ◌+◌, ◌≤◌, length, Some, true, slice_get}
use Rattle.x25_link.specs.Outgoing.{waits}
use Rattle.x25_circuit.specs.declared.circuit.Circuit as circuit_code
use Rattle.x25_circuit.specs.Circuit as circuit
use Rattle.x25_circuit.specs.Message.{joining, no_part}
use Rattle.x25_layer.specs.Layer.{is_channel}
use Rattle.x25_station.specs.declared.station.Station as code
use Rattle.x25_station.specs.Config.{Settings}
use Rattle.x25_station.specs.Station.{Station}
use Rattle.x25_station.specs.code.FitsStation.{FitsStation}

-- packets that wait in the link
abbrev pub FewWait : Type 0
FewWait = (c : Settings) (v : code.Station) (s : Station) → FitsStation c v s → waits s.link.outgoing ≤ 256

-- packets that were sent and aren't acknowledged
abbrev pub FewStand : Type 0
FewStand = (c : Settings) (v : code.Station) (s : Station) → FitsStation c v s
    → s.link.outgoing.sent ≤ s.link.outgoing.acked + 7

-- messages that wait in the circuit of each channel
abbrev pub FewMessages : Type 0
FewMessages = (c : Settings) (v : code.Station) (s : Station) (h : ℕ) → FitsStation c v s
    → is_channel c.channels h ≡ true → circuit.waits (s.layer.circuits h) ≤ 8

-- octets of the message of which some packets came, on each channel: no more than its settings say
abbrev pub FewJoined : Type 0
FewJoined = (c : Settings) (v : code.Station) (s : Station) (h : ℕ) → FitsStation c v s
    → is_channel c.channels h ≡ true
    → length (joining no_part (s.layer.circuits h).talk.taken).user ≤ c.channels.message

-- how many messages a circuit holds of those handed down: the one that is cut, or was cut last, and those behind it
abbrev pub holds : circuit_code.Circuit → ℕ
holds u = 1 + length u.transfer.queue.ring.items

-- those that wait, and one whose last packet was pulled, or that was dropped on its way, until the next is begun
abbrev pub FewHeld : Type 0
FewHeld = (v : code.Station) (k : ℕ) (u : circuit_code.Circuit) → slice_get v.layer.circuits.items k ≡ Some u
    → holds u ≤ 9
