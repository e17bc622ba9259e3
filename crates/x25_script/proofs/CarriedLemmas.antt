-- What a line carries is octets.
use Rattle.x25_script.proofs.Names.{ℕ, ◌<◌, List, [], ◌∷◌, Option, Some, None, arith, decode_of-ok, PlainCommand, call, accept, clear, send, interrupt, reset}
use Rattle.x25_script.proofs.Names.{ready, not_ready, restart, pull, connect, disconnect, probe, relink, with_given, PlainLine, command, t1, deliver, lose}
use Rattle.std.proofs.lemmas.List.Elements.{All-nil, All-from_get_or}
use Rattle.x25_script.{proofs.Names.{damage, drain, heal, Writes, SpellsPart, SpellsCommand, Spells}, specs.HexDigits.{AreOctets}}
use Rattle.x25_script.specs.{Reading.Spelling.{IsSmall}, laws.ReadingLaw.{IsOctet, PartInOctets, AsksInOctets, IsInOctets}}

written : (text octets : List ℕ) → Writes text octets → AreOctets octets
written text [] h = All-nil (λ octet. octet < 256)
written text (octet ∷ octets) h = All-from_get_or (λ octet. octet < 256) (octet ∷ octets) 0 (λ i few. (decode_of-ok text (octet ∷ octets) h).3 i)

small_octet : (o : Option ℕ) → IsSmall o → IsOctet o
small_octet None h = tt
small_octet (Some n) h = omega (arith, h)

part : (v : PlainCommand) (text : List ℕ) → SpellsPart v text → PartInOctets v
part (call called calling user params) text h = written h.3.0 user h.3.1
part (accept channel params) text h = tt
part (clear channel given) text h = (small_octet given.cause h.1.0, small_octet given.diagnostic h.1.1)
part (with_given facilities user d asked) text h = tt
part (send channel q d user) text h = tt
part (interrupt channel user) text h = tt
part (reset channel given) text h = tt
part (ready channel) text h = tt
part (not_ready channel) text h = tt
part (restart given) text h = tt
part pull text h = tt
part connect text h = tt
part disconnect text h = tt
part probe text h = tt
part relink text h = tt

asked : (v : PlainCommand) (text : List ℕ) → SpellsCommand v text → AsksInOctets v
asked (call called calling user params) text h = written h.3.0 user h.3.1
asked (with_given facilities user d a) text h = (written h.0 facilities h.1, written h.2.0 user h.2.1, part a h.2.2.0 h.2.2.1)
asked (send channel q d user) text h = written h.1.0 user h.1.1
asked (interrupt channel user) text h = written h.1.0 user h.1.1
asked (accept channel params) text h = tt
asked (clear channel given) text h = (small_octet given.cause h.1.0, small_octet given.diagnostic h.1.1)
asked (reset channel given) text h = (small_octet given.cause h.1.0, small_octet given.diagnostic h.1.1)
asked (ready channel) text h = tt
asked (not_ready channel) text h = tt
asked (restart given) text h = (small_octet given.cause h.0.0, small_octet given.diagnostic h.0.1)
asked pull text h = tt
asked connect text h = tt
asked disconnect text h = tt
asked probe text h = tt
asked relink text h = tt

pub spelled_octets : (v : PlainLine) (text : List ℕ) → Spells v text → IsInOctets v
spelled_octets (command end a) text h = asked a h.0 h.2
spelled_octets (damage from place octets) text h = written h.1.0 octets h.1.1
spelled_octets (t1 end) text h = tt
spelled_octets (deliver from) text h = tt
spelled_octets (lose from place) text h = tt
spelled_octets (drain count) text h = tt
spelled_octets heal text h = tt
