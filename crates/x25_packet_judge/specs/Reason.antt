-- Which rule a packet breaks that no state of its sender allows, by the state that has taken most, and which manners.
-- ITU-T X.25 (10/96), sections 3.3, 4.1, 4.3 and 4.4.
use Rattle.std.specs.Prelude.{ℕ, ◌-◌, ◌%◌, ◌==◌, nat_lt, nat_le, not, ◌&&◌, if◌then◌else◌, Option}
use Rattle.std.specs.Prelude.{Some, None, unwrap_or}
use Rattle.x25_packet_judge.specs.Numbers.{apart}
use Rattle.x25_packet_judge.specs.declared.packet_rule.PacketRule.{PacketRule}
use Rattle.x25_packet_judge.specs.declared.packet_rule.PacketRule.TheVariants as rules
use Rattle.x25_possible.specs.declared.{packet.Packet.{Packet}, phase.Talk.{Talk}}
use Rattle.x25_possible.specs.declared.packet.Packet.TheVariants.{Call, Accept, ClearConf, ResetConf, RestartConf}
use Rattle.x25_possible.specs.declared.packet.Packet.TheVariants.{Data, Rr, Rnr, Interrupt, InterruptConf}
use Rattle.x25_possible.specs.declared.{phase.Phase.{Phase}, phase.Phase.TheVariants.{Talks, Resets, Clears, Restarts}}

-- ---- what breaks a rule of its own wherever it isn't allowed, and any other packet

abbrev pub in_restart : Packet → PacketRule → PacketRule
in_restart RestartConf rule = rules.RestartUnasked
in_restart x rule = rule

abbrev pub in_clear : Packet → PacketRule → PacketRule
in_clear ClearConf rule = rules.ClearUnasked
in_clear x rule = in_restart x rule

abbrev pub out_of_call : Packet → PacketRule → PacketRule
out_of_call (Call terms) rule = rules.CallAgain
out_of_call (Accept said) rule = rules.AcceptUnasked
out_of_call x rule = in_clear x rule

abbrev pub in_reset : Packet → PacketRule → PacketRule
in_reset ResetConf rule = rules.ResetUnasked
in_reset x rule = out_of_call x rule

-- ---- in a call

-- a P(R) that acknowledges what was never sent, or falls, whichever is nearer (section 4.4.1.3): so far ahead of the
-- last one, with so many data packets that it may acknowledge
abbrev pub strays : ℕ → ℕ → Talk → Option PacketRule
strays ahead pending k =
    if nat_le ahead pending then None
    else if nat_lt (8 - ahead) (ahead - pending) then Some (rules.PacketFalls (k.told % 8))
    else Some (rules.PacketUnsent (k.taken % 8))

abbrev pub acknowledges : Talk → ℕ → Option PacketRule
acknowledges k number = strays (apart number (k.told % 8)) (k.taken - k.told) k

-- P(S) isn't the next one, or the eighth is unacknowledged (sections 4.4.1.1 and 4.4.1.2), or the packet is too long or
-- changes Q (sections 4.3.2 and 4.3.6)
abbrev pub follows : Talk → ℕ → ℕ → PacketRule
follows k ps size =
    if not (ps == k.sent % 8) then rules.PacketSkips (k.sent % 8)
    else if nat_le 7 (k.sent - k.acked) then rules.OverPackets 7
    else if nat_lt 0 k.most && nat_lt k.most size then rules.TooManyOctets k.most
    else rules.QualifierChanges

abbrev pub in_call : Talk → Packet → PacketRule
in_call k (Data q m ps pr size) = unwrap_or (acknowledges k pr) (follows k ps size)
in_call k (Rr pr) = unwrap_or (acknowledges k pr) (rules.PacketUnsent 0)
in_call k (Rnr pr) = unwrap_or (acknowledges k pr) (rules.PacketUnsent 0)
in_call k Interrupt = rules.InterruptAgain
in_call k InterruptConf = rules.InterruptUnasked
in_call k x = in_reset x rules.NoCall

abbrev pub reason : Phase → Packet → PacketRule
reason (Talks k) x = in_call k x
reason (Resets limits) x = in_reset x rules.ResetAwaited
reason Clears x = in_clear x rules.ClearAwaited
reason Restarts x = in_restart x rules.RestartAwaited
reason s x = out_of_call x rules.NoCall

-- ---- manners: the window of the call, and full packets where the message goes on

abbrev pub talks_rudely : Talk → PacketRule
talks_rudely k =
    if nat_lt 0 k.window && (nat_lt k.window 7 && nat_le k.window (k.sent - k.acked)) then rules.OverPackets k.window
    else rules.NotFull k.most

abbrev pub manners : Phase → PacketRule
manners (Talks k) = talks_rudely k
manners s = rules.NotFull 0
