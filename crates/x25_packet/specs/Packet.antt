-- What a packet says, without where its octets lie.
use Rattle.x25_packet.specs.Views.{called_of, calling_of, field_of, user_of}
pub use Rattle.x25_packet.specs.Packet.Plain.{PlainPacket, call, accept, clear, clear_conf, user_data, rr, rnr}
pub use Rattle.x25_packet.specs.Packet.Plain.{interrupt, interrupt_conf, reset, reset_conf, restart, restart_conf}
use Rattle.x25_packet.specs.declared.packet.Packet.{Packet}
use Rattle.x25_packet.specs.declared.packet.Packet.TheVariants as code
pub mod Plain

-- a CALL and an ACCEPT by the A bit and their octets behind the type
abbrev pub plain : Packet → PlainPacket
plain (code.Call a channel body) =
    call channel (called_of a body.now) (calling_of a body.now) (field_of a body.now) (user_of a body.now)
plain (code.Accept a channel body) = accept channel (field_of a body.now)
plain (code.Clear cause diagnostic channel) = clear channel cause diagnostic
plain (code.ClearConf channel) = clear_conf channel
plain (code.Data marks m ps pr channel user) = user_data channel marks m ps.number pr.number user.now
plain (code.Rr channel pr) = rr channel pr.number
plain (code.Rnr channel pr) = rnr channel pr.number
plain (code.Interrupt channel user) = interrupt channel user.now
plain (code.InterruptConf channel) = interrupt_conf channel
plain (code.Reset cause diagnostic channel) = reset channel cause diagnostic
plain (code.ResetConf channel) = reset_conf channel
plain (code.Restart cause diagnostic) = restart cause diagnostic
plain code.RestartConf = restart_conf
