-- Which rules of the packet layer are of manners (profile).
use Rattle.std.specs.Prelude.{nat_lt, Bool, true, false, not, Option, Some, None}
use Rattle.x25_packet_judge.specs.declared.packet_rule.PacketRule.{PacketRule}
use Rattle.x25_packet_judge.specs.declared.packet_rule.PacketRule.TheVariants.{OverPackets, NotFull}

-- No order stands on it: a window of fewer than seven is passed, or a packet with M=1 isn't full (docs/PEER.md).
abbrev pub is_of_manners : PacketRule → Bool
is_of_manners (OverPackets window) = nat_lt window 7
is_of_manners (NotFull size) = true
is_of_manners rule = false

-- a rule is told, and order stands on it
abbrev pub is_order : Option PacketRule → Bool
is_order None = false
is_order (Some rule) = not (is_of_manners rule)
