-- A data packet that is pulled, as a value alone.
use Rattle.std.specs.Prelude.{Option, Some, None}
use Rattle.x25_packet.specs.Packet.{PlainPacket, user_data}
use Rattle.x25_circuit.specs.declared.pulling.DataPacket.{DataPacket}

abbrev pub plain_data : DataPacket → PlainPacket
plain_data d = user_data 1 d.header.marks d.header.m d.header.ps.number d.header.pr.number d.user.now

abbrev pub plain_pulled : Option DataPacket → Option PlainPacket
plain_pulled None = None
plain_pulled (Some d) = Some (plain_data d)
