-- The register divides: what is fed to it bit by bit leaves the remainder of the long division.
use Rattle.std.proofs.Common.{ℕ, zero, suc, ◌+◌, ◌-◌, ◌/◌, ◌%◌, ◌^◌, ◌<◌, ◌≤◌, ◌≡◌, ◌∙◌, Bool, true, false, not, List, [], ◌∷◌, ◌++◌, length, map, take, drop}
use Rattle.std.proofs.Common.{refl, ap, sym, inl, inr, ◌⊎◌, arith, bit_xor, bit_and, length-append, add-one}
use Rattle.std.specs.Prelude.{◌==◌, if◌then◌else◌, replicate}
use Rattle.std.proofs.lemmas.Nat.{xor_mod, xor_shr, field_of}
use Rattle.std.proofs.Math.Pow.{mod-mod-pow}
use Rattle.std.proofs.lemmas.Nat.Bits.{shr_and_one}
use Rattle.std.proofs.Math.Nat.{div-one}
use Rattle.x25_bits.specs.FrameCheck.{low_bits, number_of, bits_of, xor, add, divisor, divided, inverted, fcs_of}
use Rattle.x25_bits.specs.code.Register.{stepped, fed}

pub xor_assoc : (a b c : Bool) → xor (xor a b) c ≡ xor a (xor b c)
xor_assoc true true true = refl
xor_assoc true true false = refl
xor_assoc true false true = refl
xor_assoc true false false = refl
xor_assoc false true true = refl
xor_assoc false true false = refl
xor_assoc false false true = refl
xor_assoc false false false = refl

xor_false : (a : Bool) → xor a false ≡ a
xor_false true = refl
xor_false false = refl

xor_false_l : (a : Bool) → xor false a ≡ a
xor_false_l true = refl
xor_false_l false = refl

pub add_assoc : (p q r : List Bool) → add (add p q) r ≡ add p (add q r)
unfolding add
add_assoc [] q r = refl
add_assoc (a ∷ p) [] r = refl
add_assoc (a ∷ p) (b ∷ q) [] = refl
add_assoc (a ∷ p) (b ∷ q) (c ∷ r) = rw (xor_assoc a b c, add_assoc p q r) refl

pub xor_comm : (a b : Bool) → xor a b ≡ xor b a
xor_comm true true = refl
xor_comm true false = refl
xor_comm false true = refl
xor_comm false false = refl

pub add_comm : (p q : List Bool) → add p q ≡ add q p
unfolding add
add_comm [] [] = refl
add_comm [] (b ∷ q) = refl
add_comm (a ∷ p) [] = refl
add_comm (a ∷ p) (b ∷ q) = rw (xor_comm a b, add_comm p q) refl

-- a 0 behind the shorter one changes nothing
pub add-zero_behind : (p q : List Bool) → length p < length q → add (p ++ false ∷ []) q ≡ add p q
unfolding add
add-zero_behind [] [] h = absurd (omega arith)
add-zero_behind [] (b ∷ q) h = rw (xor_false_l b) refl
add-zero_behind (a ∷ p) [] h = absurd (omega arith)
add-zero_behind (a ∷ p) (b ∷ q) h = ap (λ x. xor a b ∷ x) (add-zero_behind p q (omega arith))

pub add-zeros : (p : List Bool) → add p (replicate (length p) false) ≡ p
unfolding add
add-zeros [] = refl
add-zeros (a ∷ p) = rw (xor_false a, add-zeros p) refl

-- one turn of the division, seen from the register
pub divided-step : (n : ℕ) (r : Bool) (rs : List Bool) (b : Bool) (p : List Bool) → length rs < length p
    → divided (suc n) (add (r ∷ rs) (b ∷ p)) ≡ divided n (add (stepped (r ∷ rs) b) p)
unfolding add divided stepped
divided-step n r rs b p h = go (xor r b) refl
  where
    go : (t : Bool) → xor r b ≡ t → divided (suc n) (xor r b ∷ add rs p)
        ≡ divided n (add (if xor r b then add divisor (rs ++ false ∷ []) else (rs ++ false ∷ [])) p)
    go true t = rw (t, add_assoc divisor (rs ++ false ∷ []) p, add-zero_behind rs p h) refl
    go false t = rw (t, add-zero_behind rs p h) refl

pub length-add : (p q : List Bool) → length p ≡ length q → length (add p q) ≡ length q
unfolding add
length-add [] q h = refl
length-add (a ∷ p) [] h = h
length-add (a ∷ p) (b ∷ q) h = ap suc (length-add p q (omega arith))

length-add_le : (p q : List Bool) → length p ≤ length q → length (add p q) ≡ length q
unfolding add
length-add_le [] q h = refl
length-add_le (a ∷ p) [] h = absurd (omega arith)
length-add_le (a ∷ p) (b ∷ q) h = ap suc (length-add_le p q (omega arith))

length-divisor : length divisor ≡ 16
unfolding divisor
length-divisor = refl

pub length-stepped : (r : List Bool) (b : Bool) → length r ≡ 16 → length (stepped r b) ≡ 16
unfolding stepped
length-stepped [] b h = h
length-stepped (r ∷ rs) b h =
    let long : length (rs ++ false ∷ []) ≡ 16 = rw length-append (omega arith) in
    elim (xor r b) as (λ t. length (if t then add divisor (rs ++ false ∷ []) else (rs ++ false ∷ [])) ≡ 16) [
      | true ↦ length-add divisor (rs ++ false ∷ []) (length-divisor ∙ sym long) ∙ long
      | false ↦ long
    ]

pub length-fed : (r m : List Bool) → length r ≡ 16 → length (fed r m) ≡ 16
unfolding fed
length-fed r [] h = h
length-fed r (b ∷ m) h = length-fed (stepped r b) m (length-stepped r b h)

-- as many turns as bits were fed
pub divided-fed : (m r z : List Bool) → length r ≡ 16 → 16 ≤ length z
    → divided (length m) (add r (m ++ z)) ≡ add (fed r m) z
unfolding divided fed
divided-fed [] r z h k = refl
divided-fed (b ∷ m) [] z h k = absurd (omega arith)
divided-fed (b ∷ m) (r ∷ rs) z h k =
    divided-step (length m) r rs b (m ++ z) (rw length-append (omega arith))
    ∙ divided-fed m (stepped (r ∷ rs) b) z (length-stepped (r ∷ rs) b h) k

pub fed-append : (r a b : List Bool) → fed r (a ++ b) ≡ fed (fed r a) b
unfolding fed
fed-append r [] b = refl
fed-append r (x ∷ a) b = fed-append (stepped r x) a b

-- ---- numbers

parity : (a : ℕ) → (a % 2 ≡ 0) ⊎ (a % 2 ≡ 1)
parity a = grind arith

xor-odd : (a b : ℕ) → (bit_xor (a % 2) (b % 2) == 1) ≡ xor (a % 2 == 1) (b % 2 == 1)
xor-odd a b = elim (parity a) [
  | inl x ↦ elim (parity b) [ inl y ↦ rw (x, y) refl | inr y ↦ rw (x, y) refl ]
  | inr x ↦ elim (parity b) [ inl y ↦ rw (x, y) refl | inr y ↦ rw (x, y) refl ]
]

pub low_bits-xor : (k a b : ℕ) → low_bits k (bit_xor a b) ≡ add (low_bits k a) (low_bits k b)
unfolding low_bits add
low_bits-xor zero a b = refl
low_bits-xor (suc k) a b =
    let low : (bit_xor a b % 2) ≡ bit_xor (a % 2) (b % 2) = xor_mod a b 1 in
    let high : (bit_xor a b / 2) ≡ bit_xor (a / 2) (b / 2) = xor_shr a b 1 in
    rw (low, high, low_bits-xor k (a / 2) (b / 2), xor-odd a b) refl

-- what is above the bits doesn't count
pub low_bits-mod : (k n : ℕ) → low_bits k (n % 2 ^ k) ≡ low_bits k n
unfolding low_bits
low_bits-mod zero n = refl
low_bits-mod (suc k) n =
    let low : n % 2 ^ suc k % 2 ≡ n % 2 = rw (← add-one k) (mod-mod-pow n k 1) in
    let high : n % 2 ^ suc k / 2 ≡ n / 2 % 2 ^ k = rw (← add-one k) (field_of n k 1) in
    rw (low, high) (ap (λ (bits : List Bool). (n % 2 == 1) ∷ bits) (low_bits-mod k (n / 2)))

pub number_of-complement : (k n : ℕ) → n < 2 ^ k → number_of (map not (low_bits k n)) + n + 1 ≡ 2 ^ k
unfolding low_bits number_of
number_of-complement zero n h = omega arith
number_of-complement (suc k) n h =
    let half : n / 2 < 2 ^ k = omega arith in
    let rest = number_of-complement k (n / 2) half in
    elim (parity n) [
      | inl x ↦ rw x (omega arith)
      | inr x ↦ rw x (omega arith)
    ]

pub length-low_bits : (k n : ℕ) → length (low_bits k n) ≡ k
unfolding low_bits
length-low_bits zero n = refl
length-low_bits (suc k) n = ap suc (length-low_bits k (n / 2))

-- the first sixteen coefficients inverted
inverted_by : (k : ℕ) (p : List Bool) → k ≤ length p → map not (take k p) ++ drop k p ≡ add (replicate k true) p
unfolding add
inverted_by zero p h = refl
inverted_by (suc k) [] h = absurd (omega arith)
inverted_by (suc k) (b ∷ p) h = rw (inverted_by k p (omega arith)) refl

pub ones-are : low_bits 16 65535 ≡ replicate 16 true
unfolding low_bits
ones-are = refl

pub length-zeros : length (replicate 16 false) ≡ 16
length-zeros = refl

-- the register that began with ones and was fed the octets holds the remainder
pub fcs_of-fed : (octets : List ℕ) → fcs_of octets ≡ number_of (map not (fed (low_bits 16 65535) (bits_of octets)))
unfolding fcs_of
fcs_of-fed octets =
    let m = bits_of octets in
    let z = replicate 16 false in
    let long : 16 ≤ length (m ++ z) = rw (length-append, length-zeros) (omega arith) in
    let start : inverted (m ++ z) ≡ add (low_bits 16 65535) (m ++ z) = inverted_by 16 (m ++ z) long ∙ ap (λ ones. add ones (m ++ z)) (sym ones-are) in
    let whole : length (add (low_bits 16 65535) (m ++ z)) ≡ length m + 16 =
    length-add_le (low_bits 16 65535) (m ++ z) (rw (length-low_bits 16 65535) long) ∙ length-append m z in
    let turns : length (add (low_bits 16 65535) (m ++ z)) - 16 ≡ length m = omega arith in
    let done : divided (length m) (add (low_bits 16 65535) (m ++ z)) ≡ add (fed (low_bits 16 65535) m) z =
    divided-fed m (low_bits 16 65535) z (length-low_bits 16 65535) (omega arith) in
    let size = length-fed (low_bits 16 65535) m (length-low_bits 16 65535) in
    let same : add (fed (low_bits 16 65535) m) z ≡ fed (low_bits 16 65535) m =
    ap (λ k. add (fed (low_bits 16 65535) m) (replicate k false)) (sym size) ∙ add-zeros (fed (low_bits 16 65535) m) in
    rw (start, turns, done, same) refl

pub fcs_of-low_bits : (octets : List ℕ) (n : ℕ) → n < 2 ^ 16 → fed (low_bits 16 65535) (bits_of octets) ≡ low_bits 16 n → fcs_of octets ≡ 65535 - n
fcs_of-low_bits octets n h e =
    let complement = number_of-complement 16 n h in
    let value : number_of (map not (low_bits 16 n)) ≡ 65535 - n = omega arith in
    rw (fcs_of-fed octets, e) value

pub and_one : (n : ℕ) → bit_and n 1 ≡ n % 2
and_one n = rw (sym (div-one n)) (shr_and_one n 0)
