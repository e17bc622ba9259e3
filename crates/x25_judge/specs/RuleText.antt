-- What is said of a rule that a frame breaks (profile).
use Rattle.std.specs.Prelude.{ℕ, List, [], ◌++◌, Option, Some, None, codes, decimal}
use Rattle.x25_packet_judge.specs.PacketRuleText as packet
use Rattle.x25_judge.specs.declared.rule.Rule.{Rule}
use Rattle.x25_judge.specs.declared.rule.Rule.TheVariants.{NoFrame, UaUnasked, NotUp, NoPoll, Unsent, Falls}
use Rattle.x25_judge.specs.declared.rule.Rule.TheVariants.{RejectAgain, OverWindow, Skips, Repeats, Differs, Packet}

abbrev pub words_of : Rule → List ℕ
words_of NoFrame = codes "no frame of LAPB has these octets (2.3.5.4)"
words_of UaUnasked = codes "UA answers SABM or DISC alone (2.3.4.7)"
words_of NotUp = codes "no I frame, RR, RNR or REJ while the link isn't up (2.4.4.2)"
words_of NoPoll = codes "F=1 answers a command with P=1 alone (2.4.3)"
words_of (Unsent most) = codes "N(R) acknowledges what was never sent (2.3.4.9): at most "
words_of (Falls least) = codes "N(R) falls (2.3.4.9): at least "
words_of RejectAgain = codes "REJ comes once for a gap (2.4.5.4)"
words_of (OverWindow window) = codes "more I frames are unacknowledged than k (2.4.8.6): at most "
words_of (Skips next) = codes "N(S) skips (2.4.5.1): it should be "
words_of (Repeats next) = codes "N(S) repeats without REJ or a poll (2.4.5.9): it should be "
words_of Differs = codes "an I frame sent again has other octets (2.4.5.9)"
words_of (Packet rule) = packet.words_of rule

-- the number that would have been right, behind the words
abbrev pub number_in : Rule → Option ℕ
number_in (Unsent most) = Some most
number_in (Falls least) = Some least
number_in (OverWindow window) = Some window
number_in (Skips next) = Some next
number_in (Repeats next) = Some next
number_in (Packet rule) = packet.number_in rule
number_in rule = None

abbrev pub number_text : Option ℕ → List ℕ
number_text (Some number) = decimal number
number_text None = []

abbrev pub rule_text : Rule → List ℕ
rule_text rule = words_of rule ++ number_text (number_in rule)
