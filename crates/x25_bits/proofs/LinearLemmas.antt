-- The register is additive, and additive functions that agree at the powers of 2 agree.
use Rattle.std.proofs.Common.{ℕ, zero, suc, ◌+◌, ◌-◌, ◌*◌, ◌/◌, ◌%◌, ◌^◌, ◌<◌, ◌≤◌, ◌≡◌, ◌∙◌, ◌⊎◌, inl, inr, Bool, true, false, List, [], ◌∷◌, ◌++◌, length}
use Rattle.std.proofs.Common.{refl, ap, sym, arith, bit_xor, length-append, add-zero}
use Rattle.std.specs.Prelude.{if◌then◌else◌, replicate}
use Rattle.std.proofs.lemmas.Nat.{xor_mod, xor_shr, xor_block, xor_comm as number_comm, xor_lt, pow_pos}
use Rattle.std.proofs.Math.Nat.{div-le_self, mod-lt, pow-suc, mul_assoc}
use Rattle.std.specs.Prelude.{◌==◌}
use lib.Bits.{xor_assoc as number_assoc, xor_shifted}
use Rattle.x25_bits.specs.FrameCheck.{low_bits, xor, add, divisor}
use Rattle.x25_bits.specs.code.Register.{stepped, fed}
use Rattle.x25_bits.proofs.FcsLemmas.{add_assoc, add_comm, add-zeros, length-add, length-stepped, low_bits-xor, length-low_bits}

-- ---- the register

add_swap : (p q r : List Bool) → add p (add q r) ≡ add q (add p r)
add_swap p q r = sym (add_assoc p q r) ∙ ap (λ x. add x r) (add_comm p q) ∙ add_assoc q p r

twice_divisor : add divisor divisor ≡ replicate 16 false
unfolding divisor add
twice_divisor = refl

taken_twice : (p : List Bool) → length p ≡ 16 → add divisor (add divisor p) ≡ p
taken_twice p h =
    sym (add_assoc divisor divisor p) ∙ ap (λ x. add x p) twice_divisor ∙ add_comm (replicate 16 false) p
    ∙ ap (λ k. add p (replicate k false)) (sym h) ∙ add-zeros p

add_behind : (p q : List Bool) → length p ≡ length q → add p q ++ false ∷ [] ≡ add (p ++ false ∷ []) (q ++ false ∷ [])
unfolding add
add_behind [] [] h = refl
add_behind [] (b ∷ q) h = absurd (omega arith)
add_behind (a ∷ p) [] h = absurd (omega arith)
add_behind (a ∷ p) (b ∷ q) h = ap (λ x. xor a b ∷ x) (add_behind p q (omega arith))

xor_four : (a b c d : Bool) → xor (xor a b) (xor c d) ≡ xor (xor a c) (xor b d)
xor_four true true true d = refl
xor_four true true false true = refl
xor_four true true false false = refl
xor_four true false true true = refl
xor_four true false true false = refl
xor_four true false false true = refl
xor_four true false false false = refl
xor_four false true true true = refl
xor_four false true true false = refl
xor_four false true false d = refl
xor_four false false c d = refl

abbrev turned : List Bool → Bool → List Bool
turned p t = if t then add divisor p else p

turned_add : (p q : List Bool) (t u : Bool) → length p ≡ 16 → length q ≡ 16 → turned (add p q) (xor t u) ≡ add (turned p t) (turned q u)
unfolding add
turned_add p q true true h k =
    sym (add_assoc divisor p (add divisor q) ∙ ap (add divisor) (add_swap p divisor q) ∙ taken_twice (add p q) (length-add p q (h ∙ sym k) ∙ k))
turned_add p q true false h k = sym (add_assoc divisor p q)
turned_add p q false true h k = sym (add_swap p divisor q)
turned_add p q false false h k = refl

stepped_add : (r s : List Bool) (x y : Bool) → length r ≡ 16 → length s ≡ 16 → stepped (add r s) (xor x y) ≡ add (stepped r x) (stepped s y)
unfolding stepped add
stepped_add [] s x y h k = absurd (omega arith)
stepped_add (a ∷ p) [] x y h k = absurd (omega arith)
stepped_add (a ∷ p) (b ∷ q) x y h k =
    let long : length (p ++ false ∷ []) ≡ 16 = rw length-append (omega arith) in
    let same : length (q ++ false ∷ []) ≡ 16 = rw length-append (omega arith) in
    let behind : add p q ++ false ∷ [] ≡ add (p ++ false ∷ []) (q ++ false ∷ []) = add_behind p q (omega arith) in
    ap (λ z. turned z (xor (xor a b) (xor x y))) behind
    ∙ ap (turned (add (p ++ false ∷ []) (q ++ false ∷ []))) (xor_four a b x y)
    ∙ turned_add (p ++ false ∷ []) (q ++ false ∷ []) (xor a x) (xor b y) long same

pub fed_add : (m n r s : List Bool) → length r ≡ 16 → length s ≡ 16 → length m ≡ length n → fed (add r s) (add m n) ≡ add (fed r m) (fed s n)
unfolding fed add
fed_add [] [] r s h k e = refl
fed_add [] (y ∷ n) r s h k e = absurd (omega arith)
fed_add (x ∷ m) [] r s h k e = absurd (omega arith)
fed_add (x ∷ m) (y ∷ n) r s h k e =
    ap (λ z. fed z (add m n)) (stepped_add r s x y h k)
    ∙ fed_add m n (stepped r x) (stepped s y) (length-stepped r x h) (length-stepped s y k) (omega arith)

-- a register of zeros
abbrev pub none : List Bool
none = low_bits 16 0

pub length-none : length none ≡ 16
length-none = length-low_bits 16 0

pub none_twice : add none none ≡ none
unfolding low_bits add
none_twice = refl

-- ---- functions of numbers

abbrev pub IsLinear : (ℕ → ℕ) → Type 0
IsLinear f = (a b : ℕ) → f (bit_xor a b) ≡ bit_xor (f a) (f b)

number_four : (a b c d : ℕ) → bit_xor (bit_xor a b) (bit_xor c d) ≡ bit_xor (bit_xor a c) (bit_xor b d)
number_four a b c d =
    number_assoc a b (bit_xor c d)
    ∙ ap (bit_xor a) (sym (number_assoc b c d) ∙ ap (λ x. bit_xor x d) (number_comm b c) ∙ number_assoc c b d)
    ∙ sym (number_assoc a c (bit_xor b d))

pub linear_sum : (f g : ℕ → ℕ) → IsLinear f → IsLinear g → IsLinear (λ x. bit_xor (f x) (g x))
linear_sum f g p q a b =
    ap (λ x. bit_xor x (g (bit_xor a b))) (p a b) ∙ ap (bit_xor (bit_xor (f a) (f b))) (q a b) ∙ number_four (f a) (f b) (g a) (g b)

pub linear_same : IsLinear (λ x. x)
linear_same a b = refl

pub linear_right : (k : ℕ) (f : ℕ → ℕ) → IsLinear f → IsLinear (λ x. f x / 2 ^ k)
linear_right k f p a b = ap (λ x. x / 2 ^ k) (p a b) ∙ xor_shr (f a) (f b) k

block : (k a b : ℕ) → bit_xor (a * 2 ^ k) (b * 2 ^ k) ≡ bit_xor a b * 2 ^ k
block k a b =
    ap (λ x. bit_xor x (b * 2 ^ k)) (sym (add-zero (a * 2 ^ k))) ∙ ap (bit_xor (a * 2 ^ k + 0)) (sym (add-zero (b * 2 ^ k)))
    ∙ xor_block k a b 0 0 (pow_pos k) (pow_pos k) ∙ add-zero (bit_xor a b * 2 ^ k)

pub linear_left : (k : ℕ) (f : ℕ → ℕ) → IsLinear f → IsLinear (λ x. f x * 2 ^ k % 2 ^ 64)
linear_left k f p a b =
    ap (λ x. x * 2 ^ k % 2 ^ 64) (p a b) ∙ ap (λ x. x % 2 ^ 64) (sym (block k (f a) (f b))) ∙ xor_mod (f a * 2 ^ k) (f b * 2 ^ k) 64

-- a function of numbers below 2^64 that is linear
abbrev pub Linear : Type 0
Linear = (f : ℕ → ℕ) × (IsLinear f × ((x : ℕ) → x < 2 ^ 64 → f x < 2 ^ 64))

abbrev pub given : Linear
given = (λ x. x, (linear_same, λ x h. h))

abbrev pub plus : Linear → Linear → Linear
plus l m = (λ x. bit_xor (l.0 x) (m.0 x), (linear_sum l.0 m.0 l.1.0 m.1.0, λ x h. xor_lt 64 (l.0 x) (m.0 x) (l.1.1 x h) (m.1.1 x h)))

abbrev pub left : ℕ → Linear → Linear
left k l = (λ x. l.0 x * 2 ^ k % 2 ^ 64, (linear_left k l.0 l.1.0, λ x h. mod-lt (l.0 x * 2 ^ k) (omega arith)))

abbrev pub right : ℕ → Linear → Linear
right k l = (λ x. l.0 x / 2 ^ k, (linear_right k l.0 l.1.0, λ x h. smaller (l.0 x) k (l.1.1 x h)))
  where
    smaller : (n k : ℕ) → n < 2 ^ 64 → n / 2 ^ k < 2 ^ 64
    smaller n k h = let less = div-le_self n (2 ^ k) in omega arith

-- ---- functions from numbers to coefficients

abbrev pub IsAdditive : (ℕ → List Bool) → Type 0
IsAdditive A = (a b : ℕ) → A (bit_xor a b) ≡ add (A a) (A b)

pub additive_bits : (k : ℕ) (f : ℕ → ℕ) → IsLinear f → IsAdditive (λ x. low_bits k (f x))
additive_bits k f p a b = ap (low_bits k) (p a b) ∙ low_bits-xor k (f a) (f b)

pub additive_fed : (k : ℕ) (f : ℕ → ℕ) → IsLinear f → IsAdditive (λ x. fed none (low_bits k (f x)))
additive_fed k f p a b =
    ap (fed none) (additive_bits k f p a b) ∙ ap (λ r. fed r (add (low_bits k (f a)) (low_bits k (f b)))) (sym none_twice)
    ∙ fed_add (low_bits k (f a)) (low_bits k (f b)) none none length-none length-none (length-low_bits k (f a) ∙ sym (length-low_bits k (f b)))

zeros_twice : (k : ℕ) → add (replicate k false) (replicate k false) ≡ replicate k false
unfolding add
zeros_twice zero = refl
zeros_twice (suc k) = ap (λ x. false ∷ x) (zeros_twice k)

pub additive_behind : (k : ℕ) (A : ℕ → List Bool) → ((x : ℕ) → length (A x) ≡ 16) → IsAdditive A → IsAdditive (λ x. fed (A x) (replicate k false))
additive_behind k A h p a b =
    ap (λ r. fed r (replicate k false)) (p a b) ∙ ap (fed (add (A a) (A b))) (sym (zeros_twice k))
    ∙ fed_add (replicate k false) (replicate k false) (A a) (A b) (h a) (h b) refl

-- whether two lists are the same
unfoldable pub same : List Bool → List Bool → Bool
same [] [] = true
same [] (b ∷ q) = false
same (a ∷ p) [] = false
same (a ∷ p) (b ∷ q) = if xor a b then false else same p q

pub same_is : (p q : List Bool) → same p q ≡ true → p ≡ q
unfolding same
same_is [] [] h = refl
same_is [] (b ∷ q) h = cc h
same_is (a ∷ p) [] h = cc h
same_is (true ∷ p) (true ∷ q) h = ap (λ x. true ∷ x) (same_is p q h)
same_is (true ∷ p) (false ∷ q) h = cc h
same_is (false ∷ p) (true ∷ q) h = cc h
same_is (false ∷ p) (false ∷ q) h = ap (λ x. false ∷ x) (same_is p q h)

-- whether they agree at 0 and at the first k powers of 2
unfoldable pub agree_to : (ℕ → List Bool) → (ℕ → List Bool) → ℕ → Bool
agree_to A B zero = same (A 0) (B 0)
agree_to A B (suc k) = if same (A (2 ^ k)) (B (2 ^ k)) then agree_to A B k else false

both : (s t : Bool) → (if s then t else false) ≡ true → (s ≡ true) × (t ≡ true)
both true t h = (refl, h)
both false t h = cc h

split : (x n : ℕ) → (x < n) ⊎ (n ≤ x)
split x n = grind arith

pub agree : (A B : ℕ → List Bool) → IsAdditive A → IsAdditive B → (k : ℕ) → agree_to A B k ≡ true → (x : ℕ) → x < 2 ^ k → A x ≡ B x
unfolding agree_to
agree A B p q zero t x h =
    let nothing : x ≡ 0 = omega arith in rw nothing (same_is (A 0) (B 0) t)
agree A B p q (suc k) t x h =
    let tests : (same (A (2 ^ k)) (B (2 ^ k)) ≡ true) × (agree_to A B k ≡ true) = both _ _ t in
    elim (split x (2 ^ k)) [
      | inl low ↦ agree A B p q k tests.1 x low
      | inr high ↦
          let y = x - 2 ^ k in
          let small : y < 2 ^ k = omega arith in
          let parts : bit_xor (2 ^ k) y ≡ x = ap (λ n. bit_xor n y) (one (2 ^ k)) ∙ xor_shifted 1 k y small ∙ omega arith in
          ap A (sym parts) ∙ p (2 ^ k) y
          ∙ ap (λ r. add r (A y)) (same_is (A (2 ^ k)) (B (2 ^ k)) tests.0) ∙ ap (add (B (2 ^ k))) (agree A B p q k tests.1 y small)
          ∙ sym (q (2 ^ k) y) ∙ ap B parts
    ]
  where
    one : (n : ℕ) → n ≡ 1 * n
    one n = omega arith

-- ---- zeros

stepped_none : stepped none false ≡ none
unfolding stepped low_bits add
stepped_none = refl

pub fed_none : (k : ℕ) → fed none (replicate k false) ≡ none
unfolding fed
fed_none zero = refl
fed_none (suc k) = ap (λ r. fed r (replicate k false)) stepped_none ∙ fed_none k

add_zeros_l : (m : List Bool) → add (replicate (length m) false) m ≡ m
add_zeros_l m = add_comm (replicate (length m) false) m ∙ add-zeros m

length_zeros : (k : ℕ) → length (replicate k false) ≡ k
length_zeros zero = refl
length_zeros (suc k) = ap suc (length_zeros k)

none_zeros : none ≡ replicate 16 false
unfolding low_bits
none_zeros = refl

quiet : (r : List Bool) → length r ≡ 16 → add r none ≡ r
quiet r h = ap (add r) none_zeros ∙ ap (λ k. add r (replicate k false)) (sym h) ∙ add-zeros r

-- what a register and what the bits leave add up
pub fed_apart : (r m : List Bool) → length r ≡ 16 → add (fed r (replicate (length m) false)) (fed none m) ≡ fed r m
fed_apart r m h =
    sym (fed_add (replicate (length m) false) m r none h length-none (length_zeros (length m)))
    ∙ ap (λ x. fed (add r none) x) (add_zeros_l m) ∙ ap (λ x. fed x m) (quiet r h)

-- ---- bits of numbers

even : (m : ℕ) → ((m * 2 % 2 == 1) ≡ false) × (m * 2 / 2 ≡ m)
even m = let low : m * 2 % 2 ≡ 0 = omega arith in (rw low refl, omega arith)

-- zeros before
pub low_bits-left : (j k n : ℕ) → low_bits (j + k) (n * 2 ^ j) ≡ replicate j false ++ low_bits k n
unfolding low_bits
low_bits-left zero k n =
    let once : n * 1 ≡ n = omega arith in
    let nothing : 0 + k ≡ k = omega arith in
    ap (λ i. low_bits i (n * 1)) nothing ∙ ap (low_bits k) once
low_bits-left (suc j) k n =
    let twice : n * 2 ^ suc j ≡ n * 2 ^ j * 2 = ap (λ p. n * p) (pow-suc 2 j) ∙ sym (mul_assoc n (2 ^ j) 2) in
    let parts = even (n * 2 ^ j) in
    let more : suc j + k ≡ suc (j + k) = omega arith in
    rw (more, twice, parts.0, parts.1) (ap (λ x. false ∷ x) (low_bits-left j k n))

odd_same : (x m : ℕ) → ((x + m * 2) % 2 ≡ x % 2) × ((x + m * 2) / 2 ≡ x / 2 + m)
odd_same x m = (omega arith, omega arith)

-- one number behind another
pub low_bits-join : (j k x r : ℕ) → x < 2 ^ j → low_bits (j + k) (x + r * 2 ^ j) ≡ low_bits j x ++ low_bits k r
unfolding low_bits
low_bits-join zero k x r h =
    let once : x + r * 1 ≡ r = omega arith in
    let nothing : 0 + k ≡ k = omega arith in
    ap (λ i. low_bits i (x + r * 1)) nothing ∙ ap (low_bits k) once
low_bits-join (suc j) k x r h =
    let twice : r * 2 ^ suc j ≡ r * 2 ^ j * 2 = ap (λ p. r * p) (pow-suc 2 j) ∙ sym (mul_assoc r (2 ^ j) 2) in
    let small : x / 2 < 2 ^ j = omega (arith, pow-suc 2 j) in
    let parts = odd_same x (r * 2 ^ j) in
    let more : suc j + k ≡ suc (j + k) = omega arith in
    rw (more, twice, parts.0, parts.1) (ap (λ b. (x % 2 == 1) ∷ b) (low_bits-join j k (x / 2) r small))
