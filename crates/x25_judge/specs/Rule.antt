-- Which rules are of manners (profile).
use Rattle.std.specs.Prelude.{nat_lt, Bool, true, false, not, ◌&&◌, if◌then◌else◌, Option, Some, None}
use Rattle.x25_packet_judge.specs.PacketRule as packet
use Rattle.x25_judge.specs.declared.rule.Rule.{Rule}
use Rattle.x25_judge.specs.declared.rule.Rule.TheVariants.{NoPoll, RejectAgain, OverWindow, Skips, Repeats, Packet}

-- No order stands on it, and an end that breaks it is not answered by FRMR (docs/PEER.md). Of a window it is where the
-- window is smaller than seven.
abbrev pub is_of_manners : Rule → Bool
is_of_manners NoPoll = true
is_of_manners RejectAgain = true
is_of_manners (OverWindow window) = nat_lt window 7
is_of_manners (Skips next) = true
is_of_manners (Repeats next) = true
is_of_manners (Packet rule) = packet.is_of_manners rule
is_of_manners rule = false

abbrev pub breaks_manners : Option Rule → Bool
breaks_manners None = false
breaks_manners (Some rule) = is_of_manners rule

-- it breaks one that isn't
abbrev pub breaks_order : Option Rule → Bool
breaks_order None = false
breaks_order (Some rule) = not (is_of_manners rule)

-- the first of them, but one of order before one of manners
abbrev pub first : Option Rule → Option Rule → Option Rule
first None next = next
first (Some rule) None = Some rule
first (Some rule) (Some next) = if is_of_manners rule && not (is_of_manners next) then Some next else Some rule
