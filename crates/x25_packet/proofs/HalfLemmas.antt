-- Half octets as far as they are there, and the digits behind the type and the plan of an address.
use Rattle.x25_packet.proofs.Names.{ℕ, ◌+◌, ◌-◌, ◌*◌, ◌/◌, ◌%◌, ◌<◌, ◌≤◌, ◌≡◌, ◌∙◌, Bool, true, false, List, [], ◌∷◌, length, take, drop, get_or, refl, ap, sym}
use Rattle.x25_packet.proofs.Names.{arith, length-drop, ◌&&◌, nat_le, and_parts, le-leb, leb-true, halves_at, halves_of, hold_digits, PlainBlock, digits_behind}
use Rattle.std.proofs.{Common.{if◌then◌else◌, min}, Math.Nat.{min-le_left}, lemmas.List.{drop_min, drop-drop, drop-take, length-take, take_min}}
use Rattle.x25_packet.proofs.DigitLemmas.{length-halves_of}
use Rattle.x25_packet.specs.{Block.{block_at}, Views.{called_of, calling_of}}

pub behind_in : (b : PlainBlock) (start count : ℕ) → hold_digits (b.called + b.calling) b.addresses ≡ true → 2 ≤ count → count ≤ 17
    → halves_at b.addresses (start + 2) (count - 2) ≡ digits_behind b start count
behind_in b start count hold two few = rw (hold, le-leb _ _ two, le-leb _ _ few) refl

-- half octets as far as they are there
pub as_far : (octets : List ℕ) (start count : ℕ) → (let first = min start (2 * length octets) in
    halves_at octets first (min count (2 * length octets - first)) ≡ halves_at octets start count)
as_far octets start count =
    let halves = halves_of octets in
    let first = min start (2 * length octets) in
    let size : length (drop start halves) ≡ 2 * length octets - first = rw (length-drop, length-halves_of) (omega arith) in
    let behind : drop first halves ≡ drop start halves = ap (λ n. drop (min start n) halves) (sym (length-halves_of octets)) ∙ drop_min start halves in
    ap (take (min count (2 * length octets - first))) behind ∙ ap (λ n. take (min count n) (drop start halves)) (sym size)
    ∙ take_min count (drop start halves)

-- half octets behind the first of some
pub halves_behind : (start count n : ℕ) (octets : List ℕ) → count ≤ n → halves_at octets (start + count) (n - count) ≡ drop count (halves_at octets start n)
halves_behind start count n octets room =
    let size : n ≡ count + (n - count) = omega arith in
    sym (ap (λ k. drop count (take k (drop start (halves_of octets)))) size ∙ drop-take count (n - count) (drop start (halves_of octets))
    ∙ ap (take (n - count)) (drop-drop count start (halves_of octets)))

-- ---- a station takes at most 15 digits

take_few : (n : ℕ) (xs : List ℕ) → n ≤ 15 → length (take n xs) ≤ 15
take_few n xs few = rw length-take (let less = min-le_left n (length xs) in omega (arith, less, few))

if_few : (b : Bool) (xs : List ℕ) → (b ≡ true → length xs ≤ 15) → length (if b then xs else []) ≤ 15
if_few true xs few = few refl
if_few false xs few = omega arith

behind_few : (b : PlainBlock) (start count : ℕ) → length (digits_behind b start count) ≤ 15
behind_few b start count = if_few _ _ (λ is.
    let short : count ≤ 17 = leb-true count 17
    (and_parts (nat_le 2 count) (nat_le count 17) (and_parts (hold_digits (b.called + b.calling) b.addresses) (nat_le 2 count && nat_le count 17) is).1).1
    in
    take_few (count - 2) (drop (start + 2) (halves_of b.addresses)) (omega (arith, short)))

pub called_few : (a : Bool) (body : List ℕ) → length (called_of a body) ≤ 15
called_few true body = let b = block_at true body in behind_few b 0 b.called
called_few false [] = omega arith
called_few false (lengths ∷ octets) = take_few (lengths % 16) _ (omega arith)

pub calling_few : (a : Bool) (body : List ℕ) → ((i : ℕ) → get_or body i 0 < 256) → length (calling_of a body) ≤ 15
calling_few true body small = let b = block_at true body in behind_few b b.called b.calling
calling_few false [] small = omega arith
calling_few false (lengths ∷ octets) small = let first : lengths < 256 = small 0 in take_few (lengths / 16) _ (omega (arith, first))
