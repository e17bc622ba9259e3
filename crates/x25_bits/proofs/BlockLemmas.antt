-- Thirty-two octets at a time: what the four words of the code leave in the register.
use Rattle.std.proofs.Common.{ℕ, ◌+◌, ◌*◌, ◌/◌, ◌%◌, ◌^◌, ◌<◌, ◌≤◌, ◌≡◌, ◌∙◌, Bool, true, false, List, ◌++◌, length, refl, ap, sym, subst, arith, bit_xor}
use Rattle.std.proofs.Common.{length-append}
use Rattle.std.specs.Prelude.{replicate, drop, slice_index}
use Rattle.std.proofs.lemmas.Nat.{xor_mod}
use Rattle.std.proofs.lemmas.List.{drop-drop}
use Rattle.byteorder.specs.Endian.{little_number}
use Rattle.x25_bits.specs.FrameCheck.{low_bits, bits_of, add, divisor}
use Rattle.x25_bits.specs.code.Register.{stepped, fed, words_leave}
use Rattle.x25_bits.proofs.FcsLemmas.{fed-append, length-fed, length-low_bits, low_bits-xor}
use Rattle.x25_bits.proofs.LinearLemmas.{IsLinear, IsAdditive, linear_same, linear_sum, linear_left, linear_right, additive_behind, agree, agree_to, same, none}
use Rattle.x25_bits.proofs.LinearLemmas.{length-none, none_twice, fed_add, fed_apart, fed_none}
use Rattle.x25_bits.proofs.FoldLemmas.{fed_word, word_bits}

-- ---- the sum of words

sum_behind : (r s : List Bool) (x y : ℕ) → length r ≡ 16 → length s ≡ 16 → fed (add r s) (low_bits 64 (bit_xor x y))
    ≡ add (fed r (low_bits 64 x)) (fed s (low_bits 64 y))
sum_behind r s x y h k =
    ap (fed (add r s)) (low_bits-xor 64 x y) ∙ fed_add (low_bits 64 x) (low_bits 64 y) r s h k (length-low_bits 64 x ∙ sym (length-low_bits 64 y))

long_one : (a : ℕ) → length (fed none (low_bits 64 a)) ≡ 16
long_one a = length-fed none (low_bits 64 a) length-none

long_two : (a b : ℕ) → length (fed (fed none (low_bits 64 a)) (low_bits 64 b)) ≡ 16
long_two a b = length-fed _ (low_bits 64 b) (long_one a)

long_three : (a b c : ℕ) → length (fed (fed (fed none (low_bits 64 a)) (low_bits 64 b)) (low_bits 64 c)) ≡ 16
long_three a b c = length-fed _ (low_bits 64 c) (long_two a b)

pub words_sum : (a b c d e f g h : ℕ) → words_leave (bit_xor a e) (bit_xor b f) (bit_xor c g) (bit_xor d h) ≡ add (words_leave a b c d) (words_leave e f g h)
words_sum a b c d e f g h =
    let one : fed none (low_bits 64 (bit_xor a e)) ≡ add (fed none (low_bits 64 a)) (fed none (low_bits 64 e)) =
    ap (λ r. fed r (low_bits 64 (bit_xor a e))) (sym none_twice) ∙ sum_behind none none a e length-none length-none in
    let two = ap (λ r. fed r (low_bits 64 (bit_xor b f))) one ∙ sum_behind _ _ b f (long_one a) (long_one e) in
    let three = ap (λ r. fed r (low_bits 64 (bit_xor c g))) two ∙ sum_behind _ _ c g (long_two a b) (long_two e f) in
    ap (λ r. fed r (low_bits 64 (bit_xor d h))) three ∙ sum_behind _ _ d h (long_three a b c) (long_three e f g)

-- ---- functions of the number that four words make

abbrev Part : Type 0
Part = (f : ℕ → ℕ) × IsLinear f

linear_cut : (k : ℕ) (f : ℕ → ℕ) → IsLinear f → IsLinear (λ x. f x % 2 ^ k)
linear_cut k f p a b = ap (λ x. x % 2 ^ k) (p a b) ∙ xor_mod (f a) (f b) k

abbrev word : ℕ → Part
word k = (λ x. x / 2 ^ k % 2 ^ 64, linear_cut 64 (λ x. x / 2 ^ k) (linear_right k (λ x. x) linear_same))

abbrev plus : Part → Part → Part
plus l m = (λ x. bit_xor (l.0 x) (m.0 x), linear_sum l.0 m.0 l.1 m.1)

abbrev left : ℕ → Part → Part
left k l = (λ x. l.0 x * 2 ^ k % 2 ^ 64, linear_left k l.0 l.1)

abbrev right : ℕ → Part → Part
right k l = (λ x. l.0 x / 2 ^ k, linear_right k l.0 l.1)

abbrev words_of : Part → Part → Part → Part → ℕ → List Bool
words_of a b c d x = words_leave (a.0 x) (b.0 x) (c.0 x) (d.0 x)

additive_words : (a b c d : Part) → IsAdditive (words_of a b c d)
additive_words a b c d x y =
    ap (λ n. words_leave n (b.0 (bit_xor x y)) (c.0 (bit_xor x y)) (d.0 (bit_xor x y))) (a.1 x y)
    ∙ ap (λ n. words_leave (bit_xor (a.0 x) (a.0 y)) n (c.0 (bit_xor x y)) (d.0 (bit_xor x y))) (b.1 x y)
    ∙ ap (λ n. words_leave (bit_xor (a.0 x) (a.0 y)) (bit_xor (b.0 x) (b.0 y)) n (d.0 (bit_xor x y))) (c.1 x y)
    ∙ ap (λ n. words_leave (bit_xor (a.0 x) (a.0 y)) (bit_xor (b.0 x) (b.0 y)) (bit_xor (c.0 x) (c.0 y)) n) (d.1 x y)
    ∙ words_sum (a.0 x) (b.0 x) (c.0 x) (d.0 x) (a.0 y) (b.0 y) (c.0 y) (d.0 y)

-- ---- the code's words

abbrev second : Part → Part → Part
second a b = plus b a

abbrev run : Part → Part → Part → Part
run a b c = plus c (second a b)

abbrev third : Part → Part → Part → Part
third a b c = plus (run a b c) (left 48 a)

abbrev fourth : Part → Part → Part → Part → Part
fourth a b c d = plus (plus d (run a b c)) (plus (left 48 b) (right 16 a))

abbrev next_first : Part → Part → Part → Part → Part
next_first a b c d = plus (plus a (fourth a b c d)) (plus (right 16 (second a b)) (left 48 (third a b c)))

abbrev next_second : Part → Part → Part → Part → Part
next_second a b c d = plus (second a b) (plus (right 16 (third a b c)) (left 48 (fourth a b c d)))

abbrev next_third : Part → Part → Part → Part → Part
next_third a b c d = plus (third a b c) (right 16 (fourth a b c d))

abbrev given : (Part → Part → Part → Part → Part) → Part
given f = f (word 0) (word 64) (word 128) (word 192)

abbrev folded : ℕ → List Bool
folded = words_of (given next_first) (given next_second) (given next_third) (given fourth)

abbrev behind : ℕ → List Bool
behind = λ x. fed (words_of (word 0) (word 64) (word 128) (word 192) x) (replicate 256 false)

folded_tests : agree_to folded behind 256 ≡ true
unfolding fed stepped low_bits add divisor agree_to same
folded_tests = refl

-- what the code makes of four words
abbrev left_by : ℕ → ℕ → ℕ
left_by k n = n * 2 ^ k % 2 ^ 64

abbrev second_of : ℕ → ℕ → ℕ
second_of a b = bit_xor b a

abbrev third_of : ℕ → ℕ → ℕ → ℕ
third_of a b c = bit_xor (bit_xor c (second_of a b)) (left_by 48 a)

abbrev fourth_of : ℕ → ℕ → ℕ → ℕ → ℕ
fourth_of a b c d = bit_xor (bit_xor d (bit_xor c (second_of a b))) (bit_xor (left_by 48 b) (a / 2 ^ 16))

abbrev pub folded_words : ℕ → ℕ → ℕ → ℕ → List Bool
folded_words a b c d =
    words_leave (bit_xor (bit_xor a (fourth_of a b c d)) (bit_xor (second_of a b / 2 ^ 16) (left_by 48 (third_of a b c))))
    (bit_xor (second_of a b) (bit_xor (third_of a b c / 2 ^ 16) (left_by 48 (fourth_of a b c d))))
    (bit_xor (third_of a b c) (fourth_of a b c d / 2 ^ 16))
    (fourth_of a b c d)

abbrev Folds : ℕ → ℕ → ℕ → ℕ → Type 0
Folds a b c d = folded_words a b c d ≡ fed (words_leave a b c d) (replicate 256 false)

whole_folds : (n : ℕ) → n < 2 ^ 256 → Folds (n / 2 ^ 0 % 2 ^ 64) (n / 2 ^ 64 % 2 ^ 64) (n / 2 ^ 128 % 2 ^ 64) (n / 2 ^ 192 % 2 ^ 64)
whole_folds n h =
    agree folded behind
    (additive_words (given next_first) (given next_second) (given next_third) (given fourth))
    (additive_behind 256 (words_of (word 0) (word 64) (word 128) (word 192))
    (λ x. length-fed _ (low_bits 64 ((word 192).0 x)) (long_three ((word 0).0 x) ((word 64).0 x) ((word 128).0 x)))
    (additive_words (word 0) (word 64) (word 128) (word 192)))
    256 folded_tests n h

pub folded_is : (a b c d : ℕ) → a < 2 ^ 64 → b < 2 ^ 64 → c < 2 ^ 64 → d < 2 ^ 64 → folded_words a b c d ≡ fed (words_leave a b c d) (replicate 256 false)
folded_is a b c d h i j k =
    let n = a + b * 2 ^ 64 + c * 2 ^ 128 + d * 2 ^ 192 in
    let first : n / 2 ^ 0 % 2 ^ 64 ≡ a = omega arith in
    let next : n / 2 ^ 64 % 2 ^ 64 ≡ b = omega arith in
    let then_c : n / 2 ^ 128 % 2 ^ 64 ≡ c = omega arith in
    let then_d : n / 2 ^ 192 % 2 ^ 64 ≡ d = omega arith in
    let small : n < 2 ^ 256 = omega arith in
    subst (λ x. Folds a b c x) then_d
    (subst (λ x. Folds a b x (n / 2 ^ 192 % 2 ^ 64)) then_c
    (subst (λ x. Folds a x (n / 2 ^ 128 % 2 ^ 64) (n / 2 ^ 192 % 2 ^ 64)) next
    (subst (λ x. Folds x (n / 2 ^ 64 % 2 ^ 64) (n / 2 ^ 128 % 2 ^ 64) (n / 2 ^ 192 % 2 ^ 64)) first (whole_folds n small))))

-- ---- a step of the loop

long_words : (a b c d : ℕ) → length (words_leave a b c d) ≡ 16
long_words a b c d = length-fed _ (low_bits 64 d) (long_three a b c)

abbrev after : List Bool → ℕ → ℕ → ℕ → ℕ → List Bool
after r e f g h = fed (fed (fed (fed r (low_bits 64 e)) (low_bits 64 f)) (low_bits 64 g)) (low_bits 64 h)

abbrev joined : ℕ → ℕ → ℕ → ℕ → List Bool
joined e f g h = low_bits 64 e ++ (low_bits 64 f ++ (low_bits 64 g ++ low_bits 64 h))

after_joined : (r : List Bool) (e f g h : ℕ) → fed r (joined e f g h) ≡ after r e f g h
after_joined r e f g h =
    fed-append r (low_bits 64 e) _ ∙ fed-append _ (low_bits 64 f) _ ∙ fed-append _ (low_bits 64 g) (low_bits 64 h)

length_joined : (e f g h : ℕ) → length (joined e f g h) ≡ 256
length_joined e f g h =
    let whole = length-append (low_bits 64 e) (low_bits 64 f ++ (low_bits 64 g ++ low_bits 64 h)) in
    let three = length-append (low_bits 64 f) (low_bits 64 g ++ low_bits 64 h) in
    let two = length-append (low_bits 64 g) (low_bits 64 h) in
    omega (arith, whole, three, two, length-low_bits 64 e, length-low_bits 64 f, length-low_bits 64 g, length-low_bits 64 h)

-- what a register and four words leave add up
words_apart : (r : List Bool) (e f g h : ℕ) → length r ≡ 16 → add (fed r (replicate 256 false)) (words_leave e f g h) ≡ after r e f g h
words_apart r e f g h long =
    ap (add (fed r (replicate 256 false))) (sym (after_joined none e f g h))
    ∙ ap (λ k. add (fed r (replicate k false)) (fed none (joined e f g h))) (sym (length_joined e f g h))
    ∙ fed_apart r (joined e f g h) long
    ∙ after_joined r e f g h

pub fed_block : (r : List Bool) (p q s t e f g h : ℕ) → length r ≡ 16 → words_leave p q s t ≡ fed r (replicate 256 false)
    → words_leave (bit_xor p e) (bit_xor q f) (bit_xor s g) (bit_xor t h) ≡ after r e f g h
fed_block r p q s t e f g h long same =
    words_sum p q s t e f g h ∙ ap (λ x. add x (words_leave e f g h)) same ∙ words_apart r e f g h long

-- the next thirty-two octets
block_bits : (r : List Bool) (octets : List ℕ) (e f g h : ℕ) → 32 ≤ length octets → ((i : ℕ) → slice_index octets i < 256)
    → e ≡ little_number 8 octets → f ≡ little_number 8 (drop 8 octets) → g ≡ little_number 8 (drop 16 octets) → h ≡ little_number 8 (drop 24 octets)
    → fed r (bits_of octets) ≡ fed (after r e f g h) (bits_of (drop 32 octets))
block_bits r octets e f g h long small is_e is_f is_g is_h =
    ap (fed r) (word_bits octets 0 e (omega (arith, long)) small is_e)
    ∙ fed-append r (low_bits 64 e) (bits_of (drop 8 octets))
    ∙ ap (fed _) (word_bits octets 8 f (omega (arith, long)) small is_f)
    ∙ fed-append _ (low_bits 64 f) (bits_of (drop 16 octets))
    ∙ ap (fed _) (word_bits octets 16 g (omega (arith, long)) small is_g)
    ∙ fed-append _ (low_bits 64 g) (bits_of (drop 24 octets))
    ∙ ap (fed _) (word_bits octets 24 h (omega (arith, long)) small is_h)
    ∙ fed-append _ (low_bits 64 h) (bits_of (drop 32 octets))

pub fed_next_block : (a b c d p q s t e f g h : ℕ) (octets : List ℕ) → 32 ≤ length octets → ((i : ℕ) → slice_index octets i < 256)
    → words_leave p q s t ≡ fed (words_leave a b c d) (replicate 256 false)
    → e ≡ little_number 8 octets → f ≡ little_number 8 (drop 8 octets) → g ≡ little_number 8 (drop 16 octets) → h ≡ little_number 8 (drop 24 octets)
    → fed (words_leave (bit_xor p e) (bit_xor q f) (bit_xor s g) (bit_xor t h)) (bits_of (drop 32 octets)) ≡ fed (words_leave a b c d) (bits_of octets)
fed_next_block a b c d p q s t e f g h octets long small same is_e is_f is_g is_h =
    ap (λ r. fed r (bits_of (drop 32 octets))) (fed_block (words_leave a b c d) p q s t e f g h (long_words a b c d) same)
    ∙ sym (block_bits (words_leave a b c d) octets e f g h long small is_e is_f is_g is_h)

-- ---- before the loop and behind it

pub words_begin : (start : ℕ) → words_leave 0 0 0 start ≡ fed none (low_bits 64 start)
unfolding low_bits
words_begin start =
    ap (λ r. fed (fed (fed r (low_bits 64 0)) (low_bits 64 0)) (low_bits 64 start)) nothing
    ∙ ap (λ r. fed (fed r (low_bits 64 0)) (low_bits 64 start)) nothing
    ∙ ap (λ r. fed r (low_bits 64 start)) nothing
  where
    nothing : fed none (low_bits 64 0) ≡ none
    nothing = fed_none 64

pub last_is : (a b c d p q r : ℕ)
    → fed none (low_bits 64 p) ≡ fed none (low_bits 64 a ++ replicate 64 false)
    → fed none (low_bits 64 q) ≡ fed none (low_bits 64 (bit_xor p b) ++ replicate 64 false)
    → fed none (low_bits 64 r) ≡ fed none (low_bits 64 (bit_xor q c) ++ replicate 64 false)
    → fed none (low_bits 64 (bit_xor r d)) ≡ words_leave a b c d
last_is a b c d p q r first second third =
    fed_word (bit_xor q c) r d third
    ∙ ap (λ x. fed x (low_bits 64 d)) (fed_word (bit_xor p b) q c second ∙ ap (λ x. fed x (low_bits 64 c)) (fed_word a p b first))

-- the blocks behind one
pub on_by_block : (r s : List Bool) (i : ℕ) (here octets : List ℕ) → here ≡ drop (32 * i) octets
    → fed s (bits_of (drop 32 here)) ≡ fed r (bits_of here) → fed s (bits_of (drop (32 * (i + 1)) octets)) ≡ fed r (bits_of (drop (32 * i) octets))
on_by_block r s i here octets is_here step =
    let on : 32 * (i + 1) ≡ 32 * i + 32 = omega arith in
    ap (λ k. fed s (bits_of (drop k octets))) on
    ∙ ap (λ o. fed s (bits_of o)) (sym (drop-drop 32 (32 * i) octets) ∙ ap (drop 32) (sym is_here))
    ∙ step ∙ ap (λ o. fed r (bits_of o)) is_here
