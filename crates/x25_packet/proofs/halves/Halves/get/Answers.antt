use Rattle.std.proofs.Common.{◌≡◌, ◌+◌, ◌*◌, ◌<◌, ◌≤◌, ◌∙◌, ℕ, List, ap, drop, get_or, length, subst, sym}
use Rattle.std.proofs.lemmas.List.{get_or-take, get_or-drop}
use Rattle.x25_packet.specs.Digits.{halves_at, halves_of}
use Rattle.x25_packet.proofs.AddressLaws.{length-halves_at}
use Rattle.x25_packet.proofs.DigitLemmas.{half_even, half_odd}
use Rattle.x25_packet.proofs.halves.Halves.get.Goals as goal

-- a half octet of those from a place on
at : (octets view : List ℕ) (start count place : ℕ) → halves_at octets start count ≡ view → start + count ≤ 2 * length octets → place < length view
    → get_or (halves_of octets) (start + place) 0 ≡ get_or view place 0
at octets view start count place is there small =
    let short : place < count = subst (λ (n : ℕ). place < n) (ap length (sym is) ∙ length-halves_at octets start count there) small in
    sym (get_or-drop start (halves_of octets) place 0) ∙ sym (get_or-take count (drop start (halves_of octets)) place 0 short)
    ∙ ap (λ (halves : List ℕ). get_or halves place 0) is

pub returns-then-place-eq0-clause-value : goal.returns-then-place-eq0-clause-value
returns-then-place-eq0-clause-value c =
    let self = c.self.inside in
    half_even self.octets.now (self.start + c.args.place) c.if-place-eq0.true
    ∙ at self.octets.now c.args.self.now self.start self.count c.args.place c.self.view_is c.self.invariant.1 c.requires

pub returns-else-place-eq0-clause-value : goal.returns-else-place-eq0-clause-value
returns-else-place-eq0-clause-value c =
    let self = c.self.inside in
    half_odd self.octets.now (self.start + c.args.place) c.if-place-eq0.false
    ∙ at self.octets.now c.args.self.now self.start self.count c.args.place c.self.view_is c.self.invariant.1 c.requires
