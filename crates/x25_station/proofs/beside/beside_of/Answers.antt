use Rattle.x25_station.proofs.Names.{◌≡◌, ◌<◌, ◌∙◌, All, ap, sym, subst, refl, arith, false, Option, Result, Ok, Err, Some, is_some, List, ℕ, All-from_get_or}
use Rattle.x25_station.proofs.Names.{is_ok, plain, Spells, PlainPacket, packet_of, PacketError, Form, Any, ReadsFormsThatAreSpelled, PlainBeside, IsReadShorter}
use Rattle.std.proofs.Common.{rules, IfOk, IfSome}
use Rattle.x25_packet.specs.{Grammar.{Gives}, Packet.{plain as plain_packet}, declared.packet.Packet.{Packet}}
use Rattle.x25_station.proofs.{BesideLemmas.{read_longer}, Names.{beside_in, beside_kind, beside_or_none, nothing, plain_beside, unless_written}}
use Rattle.x25_station.proofs.beside.beside_of.Goals.{in-Ok, in-Err+in-Ok-decode}
use Rattle.x25_station.proofs.beside.beside_of.Goals as goal

by_form : (octets : List ℕ) (f w : Form) → f ≡ w → Spells Any 128 (plain w) octets → Spells Any 128 (plain f) octets
by_form octets f w is s = subst (λ (g : Form). Spells Any 128 (plain g) octets) (sym is) s

found : (octets : List ℕ) (r : Result Form PacketError) (w : Form) → r ≡ Ok w → IfOk r (λ f. Spells Any 128 (plain f) octets)
    → Spells Any 128 (plain w) octets
found octets r w is s = subst (λ (r : Result Form PacketError). IfOk r (λ f. Spells Any 128 (plain f) octets)) is s

longer : ReadsFormsThatAreSpelled → (octets : List ℕ) → All (λ octet. octet < 256) octets → (o : Option (Result Form PacketError))
    (r : Result Form PacketError) (w : Form) → o ≡ Some r → r ≡ Ok w → IfSome o (λ read. IsReadShorter read octets) → Spells Any 128 (plain w) octets
longer reads octets bytes o r w some is shorter =
    read_longer reads octets bytes r w is (subst (λ (o : Option (Result Form PacketError)). IfSome o (λ read. IsReadShorter read octets)) some shorter)

-- what octets bring that spell this form, where they aren't in the form that a station writes
brings : ReadsFormsThatAreSpelled → (octets : List ℕ) → All (λ octet. octet < 256) octets → (o : Option (Result Form PacketError))
    (r : Result Form PacketError) (w : Form) (b : PlainBeside) → o ≡ Some r → Spells Any 128 (plain w) octets → b ≡ beside_kind (plain w).kind
    → unless_written (packet_of 128 octets) b ≡ beside_in (is_some o) octets
brings reads octets bytes o r w b some spells is = sym (ap (λ o. beside_in (is_some o) octets) some
    ∙ ap (λ b. unless_written (packet_of 128 octets) b) (ap beside_or_none ((reads Any 128 (plain w) octets bytes).1 spells) ∙ sym is))

nothing_brought : (r : Result PlainPacket PacketError) → nothing ≡ unless_written r nothing
nothing_brought (Ok v) = refl
nothing_brought (Err e) = refl

unwritten : (r : Result Packet PacketError) (read : Result PlainPacket PacketError) (b : PlainBeside) → Gives plain_packet r read → is_ok r ≡ false
    → b ≡ unless_written read b
unwritten (Ok v) read b is bad = cc
unwritten (Err e) read b is bad = sym (ap (λ r. unless_written r b) is)

pub returns-in-Nothing-clause-told : goal.returns-in-Nothing-clause-told
returns-in-Nothing-clause-told c =
    let octets = c.args.octets.now in
    let bytes : All (λ octet. octet < 256) octets = All-from_get_or (λ octet. octet < 256) octets 0 (λ i low. omega (arith, c.type_inv.octets i)) in
    let reads = c.reading_is_the_grammar.ensures.form in
    let spells : Spells Any 128 (plain c.match-read.form) octets = elim c.match-read.branch [
      | in-Ok w ↦ by_form octets _ w.in-Ok.form w.form-is (longer reads octets bytes c.args.form.now _ _ c.in-Some.is w.in-Ok.is c.requires)
      | in-Err+in-Ok-decode w ↦ by_form octets _ w.in-Ok-decode.form w.form-is (found octets _ _ w.in-Ok-decode.is w.decode.ensures.found)
    ] in
    nothing_brought (packet_of 128 octets) ∙ ap (λ b. unless_written (packet_of 128 octets) (plain_beside b)) (sym c.in-Nothing.is)
    ∙ brings reads octets bytes _ _ c.match-read.form _ c.in-Some.is spells c.beside_kind.ensures

pub returns-in_default-2 : goal.returns-in_default-2
returns-in_default-2 c =
    let octets = c.args.octets.now in
    let bytes : All (λ octet. octet < 256) octets = All-from_get_or (λ octet. octet < 256) octets 0 (λ i low. omega (arith, c.type_inv.octets i)) in
    let reads = c.reading_is_the_grammar.ensures.form in
    let spells : Spells Any 128 (plain c.match-read.form) octets = elim c.match-read.branch [
      | in-Ok w ↦ by_form octets _ w.in-Ok.form w.form-is (longer reads octets bytes c.args.form.now _ _ c.in-Some.is w.in-Ok.is c.requires)
      | in-Err+in-Ok-decode w ↦ by_form octets _ w.in-Ok-decode.form w.form-is (found octets _ _ w.in-Ok-decode.is w.decode.ensures.found)
    ] in
    record {
      told = unwritten c.decode_within.result _ _ c.decode_within.ensures.exact (sym c.is_ok.ensures.value ∙ c.if-is_ok.false)
          ∙ brings reads octets bytes _ _ c.match-read.form _ c.in-Some.is spells c.beside_kind.ensures;
      few = search rules;
    }
