-- The bits of octets.
use Rattle.std.proofs.Common.{ℕ, zero, suc, ◌+◌, ◌-◌, ◌*◌, ◌/◌, ◌%◌, ◌^◌, ◌<◌, ◌≤◌, ◌≡◌, ◌∙◌, ◌⊎◌, inl, inr, Bool, true, false, ◌==◌, nat_eq, bit_and, List, []}
use Rattle.std.proofs.Common.{◌∷◌, ◌++◌, length, take, drop, get_or, refl, ap, sym, arith, length-append, append_assoc, add-one}
use Rattle.std.specs.Prelude.{if◌then◌else◌}
use Rattle.std.specs.Int.{from_bool}
use Rattle.std.proofs.lemmas.Nat.{one_shl, mod_below, pow_pos, shr-shr}
use Rattle.std.proofs.Math.Nat.{div-one}
use Rattle.std.proofs.Math.Seq.{take-append-add, take-nil}
use Rattle.std.proofs.lemmas.List.{drop-drop, take-append-le, get_or-append-add, take_all, length-take-le}
use Rattle.std.proofs.lemmas.Bool.Decides.{nat_tests}
use Rattle.std.proofs.Math.ListN.{get_or-append, set}
use Rattle.x25_bits.specs.FrameCheck.{bits_of, low_bits, number_of}
use Rattle.x25_bits.proofs.FcsLemmas.{length-low_bits, low_bits-mod, and_one}
use Rattle.x25_bits.proofs.LinearLemmas.{low_bits-join}
use Rattle.std.proofs.Math.Seq.{drop-append-add}
use Rattle.x25_bits.specs.Found.{octets_by}

low_bits-snoc : (k n : ℕ) (b : Bool) → n < 2 ^ k → low_bits (suc k) (n + (if b then 2 ^ k else 0)) ≡ low_bits k n ++ b ∷ []
unfolding low_bits
low_bits-snoc zero n true h = let none : n ≡ 0 = omega arith in rw none refl
low_bits-snoc zero n false h = let none : n ≡ 0 = omega arith in rw none refl
low_bits-snoc (suc k) n true h =
    let low : (n + 2 ^ suc k) % 2 ≡ n % 2 = omega arith in
    let high : (n + 2 ^ suc k) / 2 ≡ n / 2 + 2 ^ k = omega arith in
    rw (low, high) (ap (λ (bits : List Bool). (n % 2 == 1) ∷ bits) (low_bits-snoc k (n / 2) true (omega arith)))
low_bits-snoc (suc k) n false h =
    let same : n + 0 ≡ n = omega arith in
    let again : n / 2 + 0 ≡ n / 2 = omega arith in
    rw same (ap (λ (bits : List Bool). (n % 2 == 1) ∷ bits) (ap (low_bits (suc k)) (sym again) ∙ low_bits-snoc k (n / 2) false (omega arith)))

-- a bit written behind the lowest ones
bit_written : (k n r : ℕ) (b : Bool) → r ≡ n % 2 ^ k + (if b then 2 ^ k else 0) → low_bits (k + 1) r ≡ low_bits k n ++ b ∷ []
bit_written k n r b e = rw (add-one, e) (low_bits-snoc k (n % 2 ^ k) b (mod_below n (2 ^ k) (pow_pos k)) ∙ ap (λ bits. bits ++ b ∷ []) (low_bits-mod k n))

pub bit_set : (k n w r : ℕ) (b : Bool) → k < 8 → b ≡ true → w ≡ (1 * 2 ^ k) % 256 → r ≡ n % w + w → low_bits (k + 1) r ≡ low_bits k n ++ b ∷ []
bit_set k n w r b h t e f = let weight : w ≡ 2 ^ k = e ∙ one_shl k 8 h in rw t (bit_written k n r true (f ∙ ap (λ x. n % x + x) weight))

pub bit_clear : (k n w r : ℕ) (b : Bool) → k < 8 → b ≡ false → w ≡ (1 * 2 ^ k) % 256 → r ≡ n % w → low_bits (k + 1) r ≡ low_bits k n ++ b ∷ []
bit_clear k n w r b h t e f = let weight : w ≡ 2 ^ k = e ∙ one_shl k 8 h in let same : n % 2 ^ k ≡ n % 2 ^ k + 0 = omega arith in
    rw t (bit_written k n r false (f ∙ ap (λ x. n % x) weight ∙ same))

take_low : (j k n : ℕ) → j ≤ k → take j (low_bits k n) ≡ low_bits j n
unfolding low_bits
take_low zero k n h = refl
take_low (suc j) zero n h = absurd (omega arith)
take_low (suc j) (suc k) n h = ap (λ (bits : List Bool). (n % 2 == 1) ∷ bits) (take_low j k (n / 2) (omega arith))

pub take_first : (j o : ℕ) (rest : List Bool) → j ≤ 8 → take j (low_bits 8 o ++ rest) ≡ low_bits j o
take_first j o rest h =
    let size = length-low_bits 8 o in
    take-append-le j (low_bits 8 o) rest (omega arith) ∙ take_low j 8 o h

take_behind : (n o : ℕ) (rest : List Bool) → take (8 + n) (low_bits 8 o ++ rest) ≡ low_bits 8 o ++ take n rest
take_behind n o rest = ap (λ k. take (k + n) (low_bits 8 o ++ rest)) (sym (length-low_bits 8 o)) ∙ take-append-add (low_bits 8 o) rest n

pub length-bits_of : (octets : List ℕ) → length (bits_of octets) ≡ 8 * length octets
length-bits_of [] = refl
length-bits_of (o ∷ octets) = length-append (low_bits 8 o) (bits_of octets) ∙ (let a = length-low_bits 8 o in let b = length-bits_of octets in omega arith)

-- the bits before a bit that is written into an octet, and that bit
pub bits_written : (i k y : ℕ) (b : Bool) (octets : List ℕ) → i < length octets → k < 8 → low_bits (k + 1) y ≡ low_bits k (get_or octets i 0) ++ b ∷ []
    → take (8 * i + k + 1) (bits_of (set octets i y)) ≡ take (8 * i + k) (bits_of octets) ++ b ∷ []
bits_written i k y b [] h s e = absurd (omega arith)
bits_written zero k y b (o ∷ octets) h s e =
    let here : 8 * 0 + k ≡ k = omega arith in
    rw (here, take_first (k + 1) y (bits_of octets) (omega arith), take_first k o (bits_of octets) (omega arith)) e
bits_written (suc i) k y b (o ∷ octets) h s e =
    let new : 8 * suc i + k + 1 ≡ 8 + (8 * i + k + 1) = omega arith in
    let old : 8 * suc i + k ≡ 8 + (8 * i + k) = omega arith in
    rw (
      new,
      old,
      take_behind (8 * i + k + 1) o (bits_of (set octets i y)),
      take_behind (8 * i + k) o (bits_of octets),
      bits_written i k y b octets (omega arith) s e,
    )
    (sym (append_assoc (low_bits 8 o) (take (8 * i + k) (bits_of octets)) (b ∷ [])))

one_more : (j : ℕ) → 1 + j ≡ suc j
one_more j = omega arith

pub bits_of-append : (a b : List ℕ) → bits_of (a ++ b) ≡ bits_of a ++ bits_of b
bits_of-append [] b = refl
bits_of-append (o ∷ a) b = ap (λ l. low_bits 8 o ++ l) (bits_of-append a b) ∙ sym (append_assoc (low_bits 8 o) (bits_of a) (bits_of b))

pub place_written : (place y : ℕ) (b : Bool) (octets : List ℕ) → place / 8 < length octets → low_bits (place % 8 + 1) y
    ≡ low_bits (place % 8) (get_or octets (place / 8) 0) ++ b ∷ []
    → take (place + 1) (bits_of (set octets (place / 8) y)) ≡ take place (bits_of octets) ++ b ∷ []
place_written place y b octets h e =
    let at : 8 * (place / 8) + place % 8 ≡ place = omega arith in
    let small : place % 8 < 8 = omega arith in
    ap (λ n. take (n + 1) (bits_of (set octets (place / 8) y))) (sym at) ∙ bits_written (place / 8) (place % 8) y b octets h small e
    ∙ ap (λ n. take n (bits_of octets) ++ b ∷ []) at

pub place_pushed : (place v : ℕ) (b : Bool) (octets after : List ℕ) → place ≡ 8 * length octets → (v % 2 == 1) ≡ b → after ≡ octets ++ v ∷ []
    → take (place + 1) (bits_of after) ≡ take place (bits_of octets) ++ b ∷ []
unfolding low_bits
place_pushed place v b octets after h e a =
    let size : place ≡ length (bits_of octets) = h ∙ sym (length-bits_of octets) in
    rw (a, bits_of-append octets (v ∷ [])) (ap (λ n. take (n + 1) (bits_of octets ++ bits_of (v ∷ []))) size
    ∙ take-append-add (bits_of octets) (bits_of (v ∷ [])) 1
    ∙ ap (λ l. bits_of octets ++ l) (take_first 1 v [] (omega arith) ∙ ap (λ x. x ∷ []) e)
    ∙ ap (λ l. l ++ b ∷ []) (sym (take_all place (bits_of octets) (omega arith))))

pub one_bit : (b : Bool) (v : ℕ) → v ≡ from_bool b → (v % 2 == 1) ≡ b
one_bit true v e = rw e refl
one_bit false v e = rw e refl

low_bits_at : (j k n : ℕ) → j < k → get_or (low_bits k n) j false ≡ (n / 2 ^ j % 2 == 1)
unfolding low_bits
low_bits_at j zero n h = absurd (omega arith)
low_bits_at zero (suc k) n h = let same : n / 1 ≡ n = div-one n in rw same refl
low_bits_at (suc j) (suc k) n h =
    let next : n / 2 / 2 ^ j ≡ n / 2 ^ suc j = shr-shr n 1 j ∙ ap (λ k. n / 2 ^ k) (one_more j) in
    low_bits_at j k (n / 2) (omega arith) ∙ ap (λ q. q % 2 == 1) next

-- the bit at a place of the octets
pub bit_at_place : (i j : ℕ) (octets : List ℕ) → i < length octets → j < 8 → get_or (bits_of octets) (8 * i + j) false ≡ (get_or octets i 0 / 2 ^ j % 2 == 1)
bit_at_place i j [] h s = absurd (omega arith)
bit_at_place zero j (o ∷ octets) h s =
    let here : 8 * 0 + j ≡ j = omega arith in
    let size = length-low_bits 8 o in
    ap (λ n. get_or (low_bits 8 o ++ bits_of octets) n false) here ∙ get_or-append (low_bits 8 o) (bits_of octets) false j (omega arith) ∙ low_bits_at j 8 o s
bit_at_place (suc i) j (o ∷ octets) h s =
    let size = length-low_bits 8 o in
    let there : 8 * suc i + j ≡ length (low_bits 8 o) + (8 * i + j) = omega arith in
    ap (λ n. get_or (low_bits 8 o ++ bits_of octets) n false) there ∙ get_or-append-add (low_bits 8 o) (bits_of octets) (8 * i + j) false
    ∙ bit_at_place i j octets (omega arith) s

-- the bit at a place, as the code reads it
pub bit_read : (place : ℕ) (octets : List ℕ) → place < 8 * length octets
    → nat_eq (bit_and (get_or octets (place / 8) 0 / 2 ^ (place % 8)) 1) 1 ≡ get_or (bits_of octets) place false
bit_read place octets h =
    let at : 8 * (place / 8) + place % 8 ≡ place = omega arith in
    ap (λ n. nat_eq n 1) (and_one (get_or octets (place / 8) 0 / 2 ^ (place % 8)))
    ∙ sym (bit_at_place (place / 8) (place % 8) octets (omega arith) (omega arith))
    ∙ ap (λ n. get_or (bits_of octets) n false) at

parity : (a : ℕ) → (a % 2 ≡ 0) ⊎ (a % 2 ≡ 1)
parity a = grind arith

number_of-low_bits : (k n : ℕ) → n < 2 ^ k → number_of (low_bits k n) ≡ n
unfolding low_bits number_of
number_of-low_bits zero n h = omega arith
number_of-low_bits (suc k) n h =
    let rest = number_of-low_bits k (n / 2) (omega arith) in
    elim (parity n) [
      | inl x ↦ rw (x, rest) (omega arith)
      | inr x ↦ rw (x, rest) (omega arith)
    ]

-- the octets of octets' bits
pub octets_by-bits_of : (n : ℕ) (octets : List ℕ) → ((k : ℕ) → get_or octets k 0 < 256) → n ≤ length octets → octets_by n (bits_of octets) ≡ take n octets
unfolding octets_by low_bits
octets_by-bits_of zero octets h s = refl
octets_by-bits_of (suc n) [] h s = absurd (omega arith)
octets_by-bits_of (suc n) (o ∷ octets) h s =
    let first : number_of (low_bits 8 o) ≡ o = number_of-low_bits 8 o (h 0) in
    let rest = octets_by-bits_of n octets (λ k. h (suc k)) (omega arith) in
    rw rest (ap (λ x. x ∷ take n octets) first)

take_both : (i k : ℕ) (bits : List Bool) → i ≤ k → take i (take k bits) ≡ take i bits
take_both zero k bits h = refl
take_both (suc i) zero bits h = absurd (omega arith)
take_both (suc i) (suc k) [] h = refl
take_both (suc i) (suc k) (b ∷ bits) h = ap (λ (l : List Bool). b ∷ l) (take_both i k bits (omega arith))

drop_taken : (i k : ℕ) (bits : List Bool) → drop i (take (i + k) bits) ≡ take k (drop i bits)
drop_taken zero k bits = let same : 0 + k ≡ k = omega arith in ap (λ n. take n bits) same
drop_taken (suc i) k [] = rw (take-nil (suc i + k), take-nil k) refl
drop_taken (suc i) k (b ∷ bits) = let more : suc i + k ≡ suc (i + k) = omega arith in rw more (drop_taken i k bits)

-- whole octets want no bits behind them
pub octets_by-take : (m n : ℕ) (bits : List Bool) → 8 * m ≤ n → octets_by m (take n bits) ≡ octets_by m bits
unfolding octets_by
octets_by-take zero n bits h = refl
octets_by-take (suc m) n bits h =
    let split : n ≡ 8 + (n - 8) = omega arith in
    let first : take 8 (take n bits) ≡ take 8 bits = take_both 8 n bits (omega arith) in
    let rest : drop 8 (take n bits) ≡ take (n - 8) (drop 8 bits) = ap (λ k. drop 8 (take k bits)) split ∙ drop_taken 8 (n - 8) bits in
    rw (first, rest, octets_by-take m (n - 8) (drop 8 bits) (omega arith)) refl

-- the octets that the first bits fill
pub octets_filled : (count : ℕ) (octets : List ℕ) → ((k : ℕ) → get_or octets k 0 < 256) → count ≤ 8 * length octets → take (count / 8) octets
    ≡ octets_by (count / 8) (take count (bits_of octets))
octets_filled count octets h s = sym (octets_by-take (count / 8) count (bits_of octets) (omega arith) ∙ octets_by-bits_of (count / 8) octets h (omega arith))

-- as many bits as are seen
pub count_is : (count : ℕ) (octets : List ℕ) (bits : List Bool) → count ≤ 8 * length octets → take count (bits_of octets) ≡ bits → count ≡ length bits
count_is count octets bits h e = let all = length-bits_of octets in let size = length-take-le count (bits_of octets) (omega arith) in sym size ∙ ap length e

pub none_seen : (count : ℕ) (bits : List Bool) → count ≡ length bits → (count == 0) ≡ true → bits ≡ []
none_seen count [] e h = refl
none_seen count (b ∷ bits) e h = absurd (grind (arith, nat_tests))

pub zero_seen : (count : ℕ) (bits : List Bool) → count ≡ length bits → bits ≡ [] → (count == 0) ≡ true
zero_seen count bits e h = rw (e, h) refl

-- ---- an octet's bits behind others

take_two : (n x y s : ℕ) (rest : List Bool) → n ≤ 16 → x < 256 → x + y * 256 ≡ s → take n (low_bits 8 x ++ (low_bits 8 y ++ rest)) ≡ low_bits n s
take_two n x y s rest h small e =
    let a = length-low_bits 8 x in
    let b = length-low_bits 8 y in
    let size = length-append (low_bits 8 x) (low_bits 8 y) in
    let both : low_bits 8 x ++ low_bits 8 y ≡ low_bits 16 s = sym (low_bits-join 8 8 x y small) ∙ ap (low_bits 16) e in
    ap (take n) (sym (append_assoc (low_bits 8 x) (low_bits 8 y) rest))
    ∙ take-append-le n (low_bits 8 x ++ low_bits 8 y) rest (omega arith)
    ∙ ap (take n) both ∙ take_low n 16 s h

octet_written : (i k o x y : ℕ) (octets : List ℕ) → suc i < length octets → k < 8 → x < 256 → x + y * 256 ≡ get_or octets i 0 % 2 ^ k + o * 2 ^ k
    → (count : ℕ) → count ≤ 8 → take (8 * i + k + count) (bits_of (set (set octets i x) (suc i) y)) ≡ take (8 * i + k) (bits_of octets) ++ low_bits count o
octet_written i k o x y [] h s f e count c = absurd (omega arith)
octet_written zero k o x y (a ∷ []) h s f e count c = absurd (omega arith)
octet_written zero k o x y (a ∷ b ∷ octets) h s f e count c =
    let new : 8 * 0 + k + count ≡ k + count = omega arith in
    let old : 8 * 0 + k ≡ k = omega arith in
    ap (λ n. take n (bits_of (x ∷ y ∷ octets))) new
    ∙ take_two (k + count) x y (a % 2 ^ k + o * 2 ^ k) (bits_of octets) (omega arith) f e
    ∙ low_bits-join k count (a % 2 ^ k) o (mod_below a (2 ^ k) (pow_pos k))
    ∙ ap (λ l. l ++ low_bits count o) (low_bits-mod k a ∙ sym (take_first k a (bits_of (b ∷ octets)) (omega arith))
    ∙ ap (λ n. take n (bits_of (a ∷ b ∷ octets))) (sym old))
octet_written (suc i) k o x y (a ∷ octets) h s f e count c =
    let new : 8 * suc i + k + count ≡ 8 + (8 * i + k + count) = omega arith in
    let old : 8 * suc i + k ≡ 8 + (8 * i + k) = omega arith in
    ap (λ n. take n (bits_of (a ∷ set (set octets i x) (suc i) y))) new
    ∙ take_behind (8 * i + k + count) a (bits_of (set (set octets i x) (suc i) y))
    ∙ ap (λ l. low_bits 8 a ++ l) (octet_written i k o x y octets (omega arith) s f e count c)
    ∙ sym (append_assoc (low_bits 8 a) (take (8 * i + k) (bits_of octets)) (low_bits count o))
    ∙ ap (λ l. l ++ low_bits count o) (sym (take_behind (8 * i + k) a (bits_of octets)) ∙ ap (λ n. take n (bits_of (a ∷ octets))) (sym old))

-- the bits before an octet that is written behind them, and its first ones
pub place_octet : (place o x y : ℕ) (octets : List ℕ) → place / 8 + 1 < length octets → x < 256 → x + y * 256 ≡ get_or octets (place / 8) 0 % 2 ^ (place % 8)
    + o * 2 ^ (place % 8)
    → (count : ℕ) → count ≤ 8 → take (place + count) (bits_of (set (set octets (place / 8) x) (place / 8 + 1) y)) ≡ take place (bits_of octets)
    ++ low_bits count o
place_octet place o x y octets h f e count c =
    let at : 8 * (place / 8) + place % 8 ≡ place = omega arith in
    let next : place / 8 + 1 ≡ suc (place / 8) = omega arith in
    ap (λ n. take (place + count) (bits_of (set (set octets (place / 8) x) n y))) next
    ∙ ap (λ n. take (n + count) (bits_of (set (set octets (place / 8) x) (suc (place / 8)) y))) (sym at)
    ∙ octet_written (place / 8) (place % 8) o x y octets (omega arith) (omega arith) f e count c
    ∙ ap (λ n. take n (bits_of octets) ++ low_bits count o) at

-- the sum that two octets are made of
pub sum_behind : (k x y : ℕ) → k < 8 → x < 256 → y < 256 → x % (1 * 2 ^ k % 256) + y * 2 ^ k % 65536 ≡ x % 2 ^ k + y * 2 ^ k
sum_behind zero x y h a b = omega arith
sum_behind (suc zero) x y h a b = omega arith
sum_behind (suc (suc zero)) x y h a b = omega arith
sum_behind (suc (suc (suc zero))) x y h a b = omega arith
sum_behind (suc (suc (suc (suc zero)))) x y h a b = omega arith
sum_behind (suc (suc (suc (suc (suc zero))))) x y h a b = omega arith
sum_behind (suc (suc (suc (suc (suc (suc zero)))))) x y h a b = omega arith
sum_behind (suc (suc (suc (suc (suc (suc (suc zero))))))) x y h a b = omega arith
sum_behind (suc (suc (suc (suc (suc (suc (suc (suc k)))))))) x y h a b = absurd (omega arith)

pub sum_fits : (k x y : ℕ) → k < 8 → x < 256 → y < 256 → x % (1 * 2 ^ k % 256) + y * 2 ^ k % 65536 < 65536
sum_fits zero x y h a b = omega arith
sum_fits (suc zero) x y h a b = omega arith
sum_fits (suc (suc zero)) x y h a b = omega arith
sum_fits (suc (suc (suc zero))) x y h a b = omega arith
sum_fits (suc (suc (suc (suc zero)))) x y h a b = omega arith
sum_fits (suc (suc (suc (suc (suc zero))))) x y h a b = omega arith
sum_fits (suc (suc (suc (suc (suc (suc zero)))))) x y h a b = omega arith
sum_fits (suc (suc (suc (suc (suc (suc (suc zero))))))) x y h a b = omega arith
sum_fits (suc (suc (suc (suc (suc (suc (suc (suc k)))))))) x y h a b = absurd (omega arith)

-- the first bits are no others where octets stand behind
pub take_grown : (count : ℕ) (octets grown more : List ℕ) → count ≤ 8 * length octets → grown ≡ octets ++ more → take count (bits_of grown)
    ≡ take count (bits_of octets)
take_grown count octets grown more h e =
    let size = length-bits_of octets in
    ap (λ o. take count (bits_of o)) e ∙ ap (take count) (bits_of-append octets more) ∙ take-append-le count (bits_of octets) (bits_of more) (omega arith)

pub octet_at : (i : ℕ) (octets : List ℕ) → i < length octets → take 8 (drop (8 * i) (bits_of octets)) ≡ low_bits 8 (get_or octets i 0)
octet_at i [] h = absurd (omega arith)
octet_at zero (o ∷ octets) h = take_first 8 o (bits_of octets) (omega arith)
octet_at (suc i) (o ∷ octets) h =
    let size = length-low_bits 8 o in
    let there : 8 * suc i ≡ length (low_bits 8 o) + 8 * i = omega arith in
    ap (λ n. take 8 (drop n (low_bits 8 o ++ bits_of octets))) there
    ∙ ap (take 8) (drop-append-add (low_bits 8 o) (bits_of octets) (8 * i))
    ∙ octet_at i octets (omega arith)

pub drop_low : (j k n : ℕ) → drop j (low_bits (j + k) n) ≡ low_bits k (n / 2 ^ j)
unfolding low_bits
drop_low zero k n = let none : 0 + k ≡ k = omega arith in let same : n / 1 ≡ n = div-one n in ap (λ m. low_bits m n) none ∙ ap (low_bits k) (sym same)
drop_low (suc j) k n =
    let more : suc j + k ≡ suc (j + k) = omega arith in
    let next : n / 2 / 2 ^ j ≡ n / 2 ^ suc j = shr-shr n 1 j ∙ ap (λ m. n / 2 ^ m) (one_more j) in
    ap (λ m. drop (suc j) (low_bits m n)) more ∙ drop_low j k (n / 2) ∙ ap (low_bits k) next

low_at : (i j k : ℕ) (octets : List ℕ) → i < length octets → j + k ≤ 8 → take k (drop (8 * i + j) (bits_of octets))
    ≡ take k (drop j (low_bits 8 (get_or octets i 0)))
low_at i j k octets h s =
    let bits = bits_of octets in
    sym (ap (take k) (drop-drop j (8 * i) bits))
    ∙ sym (drop_taken j k (drop (8 * i) bits))
    ∙ ap (drop j) (sym (take_both (j + k) 8 (drop (8 * i) bits) s) ∙ ap (take (j + k)) (octet_at i octets h))
    ∙ drop_taken j k (low_bits 8 (get_or octets i 0))

-- bits from a place on, all of one octet
pub part_low : (place k : ℕ) (octets : List ℕ) → place % 8 + k ≤ 8 → place / 8 < length octets
    → take (place + k - place) (drop place (bits_of octets)) ≡ low_bits k (get_or octets (place / 8) 0 / 2 ^ (place % 8))
part_low place k octets h s =
    let many : place + k - place ≡ k = omega arith in
    let at : place ≡ 8 * (place / 8) + place % 8 = omega arith in
    let o = get_or octets (place / 8) 0 in
    let j = place % 8 in
    let whole : 8 ≡ j + (8 - j) = omega arith in
    ap (λ n. take n (drop place (bits_of octets))) many ∙ ap (λ n. take k (drop n (bits_of octets))) at ∙ low_at (place / 8) j k octets s h
    ∙ ap (λ n. take k (drop j (low_bits n o))) whole ∙ ap (take k) (drop_low j (8 - j) o)
    ∙ take_low k (8 - j) (o / 2 ^ j) (omega (h, arith))

-- what is written into a slice of all octets stands in their vector
pub slice_written : (n : ℕ) (new old : List ℕ) → n ≡ length old → length new ≡ length old → take n (new ++ drop (length new) old) ≡ new
slice_written n new old e f = take-append-le n new (drop (length new) old) (omega arith) ∙ take_all n new (omega arith)
