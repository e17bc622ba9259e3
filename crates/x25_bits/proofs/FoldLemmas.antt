-- Eight octets at a time: what the shifts of the code leave in the register.
use Rattle.std.proofs.Common.{ℕ, zero, suc, ◌+◌, ◌-◌, ◌*◌, ◌%◌, ◌^◌, ◌<◌, ◌≤◌, ◌≡◌, ◌∙◌, Bool, true, false, List, [], ◌∷◌, ◌++◌, length, refl, ap, sym, arith}
use Rattle.std.proofs.Common.{bit_xor, length-drop}
use Rattle.std.specs.Prelude.{replicate, slice_index, slice_index_or, take, drop}
use Rattle.std.proofs.lemmas.List.Concat.{flat_map-cons}
use Rattle.byteorder.specs.Endian.{little_from, little_number}
use Rattle.byteorder.specs.Numbers.{little_from-cons, little_from-take}
use Rattle.std.proofs.lemmas.List.{length-take-le, take-append-drop, get_or-take, get_or-drop, drop-drop, drop_all, take_all}
use Rattle.std.proofs.lemmas.Grind.{flat_map-append}
use Rattle.std.proofs.lemmas.Nat.{xor_comm, xor_lt}
use Rattle.x25_bits.specs.FrameCheck.{low_bits, bits_of, add, divisor}
use Rattle.x25_bits.specs.code.Register.{stepped, fed}
use Rattle.x25_bits.proofs.FcsLemmas.{fed-append, length-fed, length-low_bits, low_bits-mod}
use Rattle.x25_bits.proofs.LinearLemmas.{Linear, linear_left, linear_same, given, plus, left, right, additive_bits, additive_fed, additive_behind, agree}
use Rattle.x25_bits.proofs.LinearLemmas.{agree_to, same, none, length-none, fed_none, fed_apart, low_bits-left, low_bits-join}

abbrev taken : Linear
taken = let near = plus given (left 16 given) in plus (plus near (left 32 near)) (left 44 given)

abbrev pub folded : Linear
folded = plus (plus taken (right 20 taken)) (right 48 taken)

folded_tests : agree_to (λ x. fed none (low_bits 64 (folded.0 x))) (λ x. fed (fed none (low_bits 64 x)) (replicate 64 false)) 64 ≡ true
unfolding fed stepped low_bits add divisor agree_to same
folded_tests = refl

pub folded_is : (x : ℕ) → x < 2 ^ 64 → fed none (low_bits 64 (folded.0 x)) ≡ fed none (low_bits 64 x ++ replicate 64 false)
folded_is x h =
    agree (λ x. fed none (low_bits 64 (folded.0 x))) (λ x. fed (fed none (low_bits 64 x)) (replicate 64 false))
    (additive_fed 64 folded.0 folded.1.0)
    (additive_behind 64 (λ x. fed none (low_bits 64 x)) (λ x. length-fed none (low_bits 64 x) length-none) (additive_fed 64 given.0 given.1.0))
    64 folded_tests x h
    ∙ sym (fed-append none (low_bits 64 x) (replicate 64 false))

-- the lowest sixteen bits are dropped by a shift to the right and one back
abbrev cut : ℕ → Linear → Linear
cut k l = left k (right k l)

abbrev four : Linear
four = let first = left 32 given in let near = plus first (left 8 first) in plus (plus near (left 16 near)) (left 22 first)

abbrev next : Linear
next = cut 32 (plus (plus (plus given four) (right 10 four)) (right 24 four))

abbrev doubly : Linear → Linear
doubly l = let near = plus l (left 4 l) in plus (plus near (left 8 near)) (left 11 l)

abbrev two : Linear
two = doubly (left 16 next)

abbrev third : Linear
third = cut 48 (plus (plus (plus next two) (right 5 two)) (right 12 two))

abbrev last : Linear
last = doubly third

abbrev sum : Linear
sum = plus (plus last (right 5 last)) (right 12 last)

abbrev pub reduced : Linear
reduced = right 48 sum

reduced_tests : agree_to (λ x. low_bits 16 (reduced.0 x)) (λ x. fed none (low_bits 64 x)) 64 ≡ true
unfolding fed stepped low_bits add divisor agree_to same
reduced_tests = refl

pub reduced_is : (x : ℕ) → x < 2 ^ 64 → low_bits 16 (reduced.0 x) ≡ fed none (low_bits 64 x)
reduced_is x h =
    agree (λ x. low_bits 16 (reduced.0 x)) (λ x. fed none (low_bits 64 x)) (additive_bits 16 reduced.0 reduced.1.0) (additive_fed 64 given.0 given.1.0) 64
    reduced_tests x h

-- the sum of two numbers leaves what they leave
pub sum_leaves : (a b : ℕ) → fed none (low_bits 64 (bit_xor a b)) ≡ add (fed none (low_bits 64 a)) (fed none (low_bits 64 b))
sum_leaves a b = additive_fed 64 given.0 given.1.0 a b

-- eight octets more
pub fed_word : (held next word : ℕ) → fed none (low_bits 64 next) ≡ fed none (low_bits 64 held ++ replicate 64 false)
    → fed none (low_bits 64 (bit_xor next word)) ≡ fed (fed none (low_bits 64 held)) (low_bits 64 word)
fed_word held next word e =
    let register = fed none (low_bits 64 held) in
    sum_leaves next word
    ∙ ap (λ r. add r (fed none (low_bits 64 word))) (e ∙ fed-append none (low_bits 64 held) (replicate 64 false))
    ∙ ap (λ k. add (fed register (replicate k false)) (fed none (low_bits 64 word))) (sym (length-low_bits 64 word))
    ∙ fed_apart register (low_bits 64 word) (length-fed none (low_bits 64 held) length-none)

-- the first octets of a number
pub bits_of_little : (c n : ℕ) (octets : List ℕ) → c ≤ n → n ≤ length octets → ((i : ℕ) → i < n → slice_index octets i < 256)
    → low_bits (8 * c) (little_number n octets) ≡ bits_of (take c octets)
unfolding low_bits
bits_of_little zero n octets l h f = refl
bits_of_little (suc c) zero octets l h f = absurd (omega arith)
bits_of_little (suc c) (suc n) [] l h f = absurd (omega arith)
bits_of_little (suc c) (suc n) (x ∷ octets) l h f =
    let rest = bits_of_little c n octets (omega arith) (omega arith) (λ i k. f (suc i) (omega arith)) in
    let moved_on : little_from 1 n (x ∷ octets) ≡ little_number n octets = little_from-cons 0 n x octets in
    let eight : 8 * suc c ≡ 8 + 8 * c = omega arith in
    let small : x < 2 ^ 8 = f 0 (omega arith) in
    let around : x + 256 * little_from 1 n (x ∷ octets) ≡ x + little_number n octets * 2 ^ 8 = rw moved_on (omega arith) in
    rw (eight, around, low_bits-join 8 (8 * c) x (little_number n octets) small, rest) (sym (flat_map-cons (low_bits 8) x (take c octets)))

abbrev pub ones : List Bool
ones = low_bits 16 65535

-- what eight octets hold after so many octets of 0 that a register of ones was fed
abbrev pub starts : List ℕ
starts = 17519284025447940096 ∷ 3492541511025819648 ∷ 18446462598732840960 ∷ 1118863032424857600 ∷ 17345613964817465344 ∷ 4121638083974135808
    ∷ 225461456345235456 ∷ 3497045110653190144 ∷ []

starts_leave : (c : ℕ) → c < 8 → fed none (low_bits 64 (slice_index_or starts c 0)) ≡ fed ones (replicate (8 * c) false)
unfolding fed stepped low_bits add divisor
starts_leave zero h = refl
starts_leave (suc zero) h = refl
starts_leave (suc (suc zero)) h = refl
starts_leave (suc (suc (suc zero))) h = refl
starts_leave (suc (suc (suc (suc zero)))) h = refl
starts_leave (suc (suc (suc (suc (suc zero))))) h = refl
starts_leave (suc (suc (suc (suc (suc (suc zero)))))) h = refl
starts_leave (suc (suc (suc (suc (suc (suc (suc zero))))))) h = refl
starts_leave (suc (suc (suc (suc (suc (suc (suc (suc c)))))))) h = absurd (omega arith)

pub begun_empty : (octets : List ℕ) → fed none (low_bits 64 17519284025447940096) ≡ fed ones (bits_of (take 0 octets))
unfolding fed
begun_empty octets = starts_leave 0 (omega arith)

-- the first octets of a number behind the start
pub begun_is : (octets : List ℕ) (c n word : ℕ) → c < 8 → c ≤ n → n ≤ length octets → ((i : ℕ) → slice_index octets i < 256) → word ≡ little_number n octets
    → fed none (low_bits 64 (bit_xor (slice_index_or starts c 0) (word * 2 ^ (64 - 8 * c) % 2 ^ 64))) ≡ fed ones (bits_of (take c octets))
begun_is octets c n word h within long f e =
    let j = 64 - 8 * c in
    let first = bits_of (take c octets) in
    let start = slice_index_or starts c 0 in
    let all : 64 ≡ j + 8 * c = omega arith in
    let held : low_bits (8 * c) word ≡ first = ap (low_bits (8 * c)) e ∙ bits_of_little c n octets within long (λ i k. f i) in
    let bits : low_bits 64 (word * 2 ^ j) ≡ replicate j false ++ first =
    ap (λ k. low_bits k (word * 2 ^ j)) all ∙ low_bits-left j (8 * c) word ∙ ap (λ m. replicate j false ++ m) held in
    let moved_in : fed none (low_bits 64 (word * 2 ^ j % 2 ^ 64)) ≡ fed none first =
    ap (fed none) (low_bits-mod 64 (word * 2 ^ j) ∙ bits) ∙ fed-append none (replicate j false) first ∙ ap (λ r. fed r first) (fed_none j) in
    let size : 8 * c ≡ length first = sym (length-low_bits (8 * c) word) ∙ ap length held in
    sum_leaves start (word * 2 ^ j % 2 ^ 64)
    ∙ ap (add (fed none (low_bits 64 start))) moved_in
    ∙ ap (λ r. add r (fed none first)) (starts_leave c h ∙ ap (λ k. fed ones (replicate k false)) size)
    ∙ fed_apart ones first (length-low_bits 16 65535)

-- the next eight octets
pub word_bits : (octets : List ℕ) (at word : ℕ) → at + 8 ≤ length octets → ((i : ℕ) → slice_index octets i < 256) → word ≡ little_number 8 (drop at octets)
    → bits_of (drop at octets) ≡ low_bits 64 word ++ bits_of (drop (at + 8) octets)
word_bits octets at word h f e =
    let rest = drop at octets in
    let first = take 8 rest in
    let long : length first ≡ 8 = length-take-le 8 rest (rw length-drop (omega arith)) in
    let same_number : little_number 8 rest ≡ little_number 8 first = sym (little_from-take 0 8 8 rest (omega arith)) in
    let bits : low_bits 64 (little_number 8 first) ≡ bits_of first =
    bits_of_little 8 8 first (omega arith) (omega arith) (λ i k. rw (get_or-take 8 rest i 0 k, get_or-drop at octets i 0) (f (at + i)))
    ∙ ap bits_of (take_all 8 first (omega arith)) in
    ap bits_of (sym (take-append-drop 8 rest) ∙ ap (λ x. first ++ x) (drop-drop 8 at octets))
    ∙ flat_map-append (low_bits 8) first (drop (at + 8) octets)
    ∙ ap (λ x. x ++ bits_of (drop (at + 8) octets)) (sym bits ∙ ap (low_bits 64) (sym same_number ∙ sym e))

-- a step of the loop
pub fed_next_word : (held next word i : ℕ) (rest : List ℕ) → 8 * i + 8 ≤ length rest → ((j : ℕ) → slice_index rest j < 256)
    → fed none (low_bits 64 next) ≡ fed none (low_bits 64 held ++ replicate 64 false) → word ≡ little_number 8 (drop (8 * i) rest)
    → fed (fed none (low_bits 64 (bit_xor next word))) (bits_of (drop (8 * (i + 1)) rest)) ≡ fed (fed none (low_bits 64 held)) (bits_of (drop (8 * i) rest))
fed_next_word held next word i rest h f e n =
    let on : 8 * (i + 1) ≡ 8 * i + 8 = omega arith in
    let register = fed none (low_bits 64 held) in
    ap (λ k. fed (fed none (low_bits 64 (bit_xor next word))) (bits_of (drop k rest))) on
    ∙ ap (λ r. fed r (bits_of (drop (8 * i + 8) rest))) (fed_word held next word e)
    ∙ sym (fed-append register (low_bits 64 word) (bits_of (drop (8 * i + 8) rest)))
    ∙ ap (fed register) (sym (word_bits rest (8 * i) word h f n))

-- the first octets and the rest
pub fed_halves : (r : List Bool) (n : ℕ) (first rest octets : List ℕ) → first ≡ take n octets → rest ≡ drop n octets
    → fed (fed r (bits_of first)) (bits_of rest) ≡ fed r (bits_of octets)
fed_halves r n first rest octets front back =
    sym (fed-append r (bits_of first) (bits_of rest))
    ∙ ap (fed r) (sym (flat_map-append (low_bits 8) first rest)
    ∙ ap bits_of (ap (λ x. x ++ rest) front ∙ ap (λ x. take n octets ++ x) back ∙ take-append-drop n octets))

pub fed_parts : (held n : ℕ) (first rest octets : List ℕ) → first ≡ take n octets → rest ≡ drop n octets
    → fed none (low_bits 64 held) ≡ fed ones (bits_of first) → fed (fed none (low_bits 64 held)) (bits_of rest) ≡ fed ones (bits_of octets)
fed_parts held n first rest octets front back e = ap (λ r. fed r (bits_of rest)) e ∙ fed_halves ones n first rest octets front back

-- the end
pub fed_end : (r : List Bool) (at : ℕ) (octets : List ℕ) → length octets ≤ at → r ≡ fed r (bits_of (drop at octets))
unfolding fed
fed_end r at octets h = sym (ap (λ o. fed r (bits_of o)) (drop_all at octets h))

-- two octets alone
pub two_is : (octets : List ℕ) (word : ℕ) → length octets ≡ 2 → ((i : ℕ) → slice_index octets i < 256) → word < 2 ^ 16 → word ≡ little_number 2 octets
    → fed none (low_bits 64 (bit_xor word 65535 * 2 ^ 48)) ≡ fed ones (bits_of octets)
two_is octets word long small h e =
    let few : bit_xor word 65535 < 2 ^ 16 = xor_lt 16 word 65535 h (omega arith) in
    let whole : bit_xor word 65535 * 2 ^ 48 % 2 ^ 64 ≡ bit_xor word 65535 * 2 ^ 48 = omega (arith, few) in
    let parts = linear_left 48 (λ x. x) linear_same word 65535 ∙ xor_comm (word * 2 ^ 48 % 2 ^ 64) (65535 * 2 ^ 48 % 2 ^ 64) in
    ap (λ n. fed none (low_bits 64 n)) (sym whole ∙ parts)
    ∙ begun_is octets 2 2 word (omega arith) (omega arith) (omega (arith, long)) small e
    ∙ ap (λ o. fed ones (bits_of o)) (take_all 2 octets (omega (arith, long)))
