-- What a circuit sends, as values alone.
use Rattle.std.specs.Prelude.{ℕ}
use Rattle.x25_packet.specs.Packet.{PlainPacket, call, accept, clear, clear_conf, rr, rnr, interrupt, interrupt_conf}
use Rattle.x25_packet.specs.Packet.{reset, reset_conf}
use Rattle.x25_circuit.specs.declared.owed.Owed.{Owed}
use Rattle.x25_circuit.specs.declared.owed.Owed.TheVariants as owing
use Rattle.x25_circuit.specs.declared.requested.Requested.{Requested}
use Rattle.x25_circuit.specs.declared.requested.Requested.TheVariants as asked

-- what is owed for a packet that came, on this channel
abbrev pub packet_owed : ℕ → Owed → PlainPacket
packet_owed channel (owing.Clear cause diagnostic) = clear channel cause diagnostic
packet_owed channel owing.ClearConf = clear_conf channel
packet_owed channel (owing.Rr pr) = rr channel pr.number
packet_owed channel (owing.Rnr pr) = rnr channel pr.number
packet_owed channel owing.InterruptConf = interrupt_conf channel
packet_owed channel (owing.Reset cause diagnostic) = reset channel cause diagnostic
packet_owed channel owing.ResetConf = reset_conf channel

-- what a request of the user sends, on channel 1
abbrev pub plain_requested : Requested → PlainPacket
plain_requested (asked.Call called calling facilities user) = call 1 called calling facilities user.now
plain_requested (asked.Accept facilities) = accept 1 facilities
plain_requested (asked.Interrupt user) = interrupt 1 user.now
plain_requested (asked.Owed owed) = packet_owed 1 owed
