use Rattle.std.proofs.Common.{ℕ, List, ◌≡◌, ◌+◌, ◌*◌, ◌/◌, ◌%◌, ◌-◌, ◌≤◌, ◌∙◌, arith, ap, sym, drop, length, length-drop, take}
use Rattle.std.proofs.lemmas.List.{length-take-le}
use Rattle.x25_packet.specs.Digits.{halves_at}
use Rattle.x25_packet.proofs.AddressLaws.{length-halves_at}
use Rattle.x25_packet.proofs.DigitLemmas.{halves_held}
use Rattle.x25_packet.proofs.halves.Halves.octets.Goals as goal

abbrev held : ℕ → ℕ → ℕ
held start count = (start + count + 1) / 2 - start / 2

-- the octets are all there
long : (octets : List ℕ) (start count : ℕ) → start + count ≤ 2 * length octets → length (take (held start count) (drop (start / 2) octets)) ≡ held start count
long octets start count there = length-take-le (held start count) (drop (start / 2) octets) (rw length-drop (omega (arith, there)))

count_is : (c : goal.After-result-2-1) → length c.args.self.now ≡ c.self.inside.count
count_is c =
    ap length (sym c.self.view_is) ∙ length-halves_at c.self.inside.octets.now c.self.inside.start c.self.inside.count c.self.invariant.1

pub returns-clause-held : goal.returns-clause-held
returns-clause-held c =
    let octets = c.self.inside.octets.now in
    let start = c.self.inside.start in
    let count = c.self.inside.count in
    let place : 2 * (start / 2) + start % 2 ≡ start = omega arith in
    ap (halves_at (take (held start count) (drop (start / 2) octets)) (start % 2)) (count_is c)
    ∙ halves_held octets (start / 2) (start % 2) count (held start count) (omega arith)
    ∙ ap (λ first. halves_at octets first count) place ∙ c.self.view_is

pub returns-clause-room : goal.returns-clause-room
returns-clause-room c =
    let size = long c.self.inside.octets.now c.self.inside.start c.self.inside.count c.self.invariant.1 in
    omega (arith, count_is c, size)

pub returns-clause-few : goal.returns-clause-few
returns-clause-few c =
    let size = long c.self.inside.octets.now c.self.inside.start c.self.inside.count c.self.invariant.1 in
    omega (arith, count_is c, size)
