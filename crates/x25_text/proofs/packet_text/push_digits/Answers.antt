use Rattle.std.proofs.Common.{ℕ, ◌≡◌, ◌+◌, ◌-◌, ◌≤◌, ◌*◌, ◌/◌, ◌%◌, ◌<◌, ◌∙◌, List, [], ◌∷◌, ◌++◌, ap, arith, drop, get_or, length, map, refl, sym}
use Rattle.std.proofs.Common.{set, suc, take, zero}
use Rattle.std.proofs.lemmas.List.{drop-map, drop-take, length-set, take-map, take-take, take_all, take_more_set}
use Rattle.x25_packet.specs.Digits.{halves_of}
use Rattle.x25_text.proofs.packet_text.push_digits.Goals as goal

abbrev shown : List ℕ → List ℕ
shown halves = map (λ half. 48 + half) halves

-- the half octets of one octet more
one_more : (octets : List ℕ) (place : ℕ) → place < length octets
    → shown (halves_of (take (place + 1) octets))
    ≡ (shown (halves_of (take place octets)) ++ ((48 + get_or octets place 0 / 16) ∷ [])) ++ ((48 + get_or octets place 0 % 16) ∷ [])
unfolding halves_of
one_more [] place inside = absurd (omega (arith, inside))
one_more (octet ∷ octets) zero inside = refl
one_more (octet ∷ octets) (suc place) inside =
    let at : suc place + 1 ≡ suc (place + 1) = omega arith in
    rw at (ap (λ (more : List ℕ). (48 + octet / 16) ∷ (48 + octet % 16) ∷ more) (one_more octets place (omega (arith, inside))))

pub loop-place-init : goal.loop-place-init
unfolding halves_of
loop-place-init c = record { long = refl; same = refl }

pub loop-place-preserved : goal.loop-place-preserved
loop-place-preserved c =
    let figures = c.loop-place.figures in
    let place = c.loop-place.place in
    let octets = c.octets-before.result.0.now in
    let high = 48 + get_or octets place 0 / 16 in
    let low = 48 + get_or octets place 0 % 16 in
    let long = c.loop-place.invariant.long in
    let inside = c.loop-place-test.true in
    let few = c.octets-before.ensures.few in
    let first : 2 * place < length figures = omega (arith, inside, long, few, c.requires.few) in
    let two : 2 * (place + 1) ≡ (2 * place + 1) + 1 = omega arith in
    record {
      long = length-set _ _ _ ∙ length-set _ _ _ ∙ long;
      same =
          rw two
          (take_more_set (set figures (2 * place) high) (2 * place + 1) low
          (rw length-set (omega (arith, inside, long, few, c.requires.few)))
          ∙ ap (λ text. text ++ (low ∷ [])) (take_more_set figures (2 * place) high first ∙ ap (λ text. text ++ (high ∷ [])) c.loop-place.invariant.same)
          ∙ sym (one_more octets place inside));
    }

-- the figures of half octets from a place on
part : (figures halves : List ℕ) (whole before count : ℕ) → before + count ≤ whole → take whole figures ≡ shown halves
    → take count (drop before figures) ≡ shown (take count (drop before halves))
part figures halves whole before count room same =
    let size : whole ≡ before + (whole - before) = omega (arith, room) in
    sym (take-take count (whole - before) (drop before figures) (omega (arith, room)))
    ∙ ap (take count) (sym (drop-take before (whole - before) figures) ∙ ap (λ n. drop before (take n figures)) (sym size))
    ∙ ap (λ some. take count (drop before some)) same
    ∙ ap (take count) (drop-map (λ half. 48 + half) before halves)
    ∙ take-map (λ half. 48 + half) count (drop before halves)

pub returns-clause-text : goal.returns-clause-text
unfolding halves_of
returns-clause-text c =
    let octets = c.octets-before.result.0.now in
    let before = c.octets-before.result.1 in
    let count = length c.args.digits.now in
    let place = c.loop-place.place in
    let number : (before + c.len.result) - before ≡ count = omega (arith, c.len.ensures.number) in
    let room : before + count ≤ 2 * place = omega (arith, c.octets-before.ensures.room, c.loop-place-test.false) in
    c.push.ensures.text
    ∙ ap (λ more. c.args.text.now ++ more)
    (ap (λ n. take n (drop before c.loop-place.figures)) number
    ∙ part c.loop-place.figures (halves_of (take place octets)) (2 * place) before count room c.loop-place.invariant.same
    ∙ ap (λ some. shown (take count (drop before (halves_of some)))) (take_all place octets c.loop-place-test.false)
    ∙ ap shown c.octets-before.ensures.held)
