-- Which rules of the packet layer order stands on, by the rules of docs/PEER.md: all but a window of fewer than seven,
-- and full packets.
use Rattle.std.specs.Prelude.{nat_le, Bool, true, false}
use Rattle.x25_packet_judge.specs.declared.packet_rule.PacketRule.{PacketRule}
use Rattle.x25_packet_judge.specs.declared.packet_rule.PacketRule.TheVariants.{OverPackets, NotFull}

abbrev pub is_of_order : PacketRule → Bool
is_of_order (OverPackets window) = nat_le 7 window
is_of_order (NotFull size) = false
is_of_order rule = true
