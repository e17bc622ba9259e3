-- How many octets a station holds at most (profile): each message counts as the longest, and the memory of `Frames` and
-- of a `Sheet`, which contracts don't see, as all that this type may have.
use Rattle.std.specs.Prelude.{ℕ, ◌+◌, ◌*◌, ◌≤◌, length, vec_capacity}
use Rattle.std.specs.List.{sum_by}
use Rattle.x25_link.specs.code.FitsLink.{ShownLink}
use Rattle.x25_circuit.specs.declared.circuit.Circuit as circuit_code
use Rattle.x25_layer.specs.declared.layer.Layer as layer_code
use Rattle.x25_station.specs.declared.station.Station as code
use Rattle.x25_station.specs.Config.{Settings}
use Rattle.x25_station.specs.Station.{Station}
use Rattle.x25_station.specs.code.FitsStation.{FitsStation}
use Rattle.x25_station.specs.laws.HoldLaw.{holds}

-- the places of packets that wait or stand unacknowledged, of two sizes, and the 25 places of frames
abbrev pub link_octets : ShownLink → ℕ
link_octets l =
    260 * l.station.outgoing.places.short.all + (4099 * l.station.outgoing.places.long.all + 4103 * 25)

-- the memory for the message of which some packets came, whether it is made yet or not
abbrev pub part_octets : circuit_code.Circuit → ℕ
part_octets u = u.transfer.partial.longest

-- that, and messages of 65,535 octets
abbrev pub circuit_octets : circuit_code.Circuit → ℕ
circuit_octets u = 65535 * holds u + part_octets u

-- those of its circuits, and the sheet on which a packet is spelled
abbrev pub layer_octets : layer_code.Layer → ℕ
layer_octets y = sum_by circuit_octets y.circuits.items + 4099

-- those, and the memory for a packet with what is given beside it
abbrev pub octets_held : code.Station → ℕ
octets_held v = link_octets v.link + layer_octets v.layer + vec_capacity v.writing.octets

-- so many, and so many for each channel
abbrev pub FewOctets : Type 0
FewOctets = (v : code.Station) → octets_held v
    ≤ 236796 + (589815 * length v.layer.circuits.items + sum_by part_octets v.layer.circuits.items)

-- with so many channels, and messages of so many octets, as its settings say
abbrev pub FewOctetsInAll : Type 0
FewOctetsInAll = (c : Settings) (v : code.Station) (s : Station) → FitsStation c v s
    → octets_held v ≤ 236796 + (589815 + c.channels.message) * c.channels.count
