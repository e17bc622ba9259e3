-- What is said of a rule of the packet layer that a packet breaks (profile).
use Rattle.std.specs.Prelude.{ℕ, List, Option, Some, None, codes}
use Rattle.x25_packet_judge.specs.declared.packet_rule.PacketRule.{PacketRule}
use Rattle.x25_packet_judge.specs.declared.packet_rule.PacketRule.TheVariants as rules

abbrev pub words_of : PacketRule → List ℕ
words_of rules.NoPacket = codes "no packet of X.25 has these octets (5)"
words_of rules.RestartAwaited = codes "nothing but RESTART goes before its confirmation (3.3.1)"
words_of rules.RestartUnasked = codes "RESTART CONFIRMATION of no RESTART (3.3.1)"
words_of rules.ClearAwaited = codes "nothing but CLEAR goes before its confirmation (4.1.7)"
words_of rules.ClearUnasked = codes "CLEAR CONFIRMATION of no CLEAR (4.1.7)"
words_of rules.CallAgain = codes "CALL where the channel has a call (4.1.2)"
words_of rules.AcceptUnasked = codes "CALL ACCEPTED of no call, or not as proposed (4.1.4, 6.12)"
words_of rules.NoCall = codes "no call is up on the channel (4.3)"
words_of rules.ResetAwaited = codes "nothing but RESET goes before its confirmation (4.4.3)"
words_of rules.ResetUnasked = codes "RESET CONFIRMATION of no RESET (4.4.3.4)"
words_of (rules.PacketUnsent most) = codes "P(R) acknowledges what was never sent (4.4.1.3): at most "
words_of (rules.PacketFalls least) = codes "P(R) falls (4.4.1.3): at least "
words_of (rules.PacketSkips next) = codes "P(S) isn't the next one (4.4.1.1): it should be "
words_of (rules.OverPackets window) = codes "more data packets are unacknowledged than the window (4.4.1.2): at most "
words_of rules.InterruptAgain = codes "INTERRUPT before the last one is confirmed (4.3.7)"
words_of rules.InterruptUnasked = codes "INTERRUPT CONFIRMATION of no INTERRUPT (4.3.7)"
words_of (rules.TooManyOctets most) = codes "more user data than the packet size (4.3.2): at most "
words_of (rules.NotFull size) = codes "M=1 in a packet that isn't full (4.3.4): it should have "
words_of rules.QualifierChanges = codes "Q changes within a message (4.3.6)"

-- the number that would have been right, behind the words
abbrev pub number_in : PacketRule → Option ℕ
number_in (rules.PacketUnsent most) = Some most
number_in (rules.PacketFalls least) = Some least
number_in (rules.PacketSkips next) = Some next
number_in (rules.OverPackets window) = Some window
number_in (rules.TooManyOctets most) = Some most
number_in (rules.NotFull size) = Some size
number_in rule = None
