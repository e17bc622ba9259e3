-- The lines of a text, and the place of the first line feed.
use Rattle.memchr.specs.Find.{IsFirstByte, is_byte}
use Rattle.std.proofs.Common.{◌≡◌, ◌≢◌, ◌<◌, ◌≤◌, ◌-◌, ℕ, zero, suc, Bool, true, false, not, List, [], ◌∷◌, ◌++◌, length, take, drop, Some, None, ap, arith}
use Rattle.std.proofs.{Common.{get_or, get_or-take, eq-eqb, eqb-true, add-one, ◌∙◌, sym, ◌+◌, nat_eq, refl}, lemmas.Bool.{ne_eqb}}
use Rattle.std.proofs.lemmas.{List.{append-nil, length-take-le, take_rest}, List.Sums.{prefix_len_passes, prefix_len_stops}}
use Rattle.std.specs.List.{prefix_len}
use Rattle.x25_io.specs.Lines.{IsOpen, lines_of}

cut_at : (at : ℕ) (left : List ℕ) → at < length left → ((k : ℕ) → k < at → get_or left k 0 ≢ 10) → get_or left at 0 ≡ 10
    → (left ≡ take at left ++ 10 ∷ drop (suc at) left) × IsOpen (take at left)
cut_at at [] h none here = absurd (omega arith)
cut_at zero (b ∷ left) h none here = (ap (λ b. b ∷ left) here, tt)
cut_at (suc at) (b ∷ left) h none here =
    let rest = cut_at at left (omega arith) (λ k lt. none (suc k) (omega arith)) here in
    (ap (λ t. b ∷ t) rest.0, (none 0 (omega arith), rest.1))

open_all : (left : List ℕ) → ((k : ℕ) → k < length left → get_or left k 0 ≢ 10) → IsOpen left
open_all [] none = tt
open_all (b ∷ left) none = (none 0 (omega arith), open_all left (λ k lt. none (suc k) (omega arith)))

-- as the code cuts them
pub cut_line : (at : ℕ) (left : List ℕ) → IsFirstByte (is_byte 10) left (Some at)
    → IsOpen (take at left) × (left ≡ take at left ++ 10 ∷ take (length left - (at + 1)) (drop (at + 1) left))
cut_line at left h =
    let cut = cut_at at left h.0.high (λ k lt e. h.0.before k (omega arith) lt (eq-eqb (get_or left k 0) 10 e)) (eqb-true (get_or left at 0) 10 h.1) in
    let behind : drop (suc at) left ≡ take (length left - (at + 1)) (drop (at + 1) left) =
    ap (λ n. drop n left) (sym (add-one at)) ∙ sym (take_rest left (at + 1)) in
    (cut.1, cut.0 ∙ ap (λ rest. take at left ++ 10 ∷ rest) behind)

pub no_line : (left : List ℕ) → IsFirstByte (is_byte 10) left None → IsOpen left
no_line left h = open_all left (λ k lt e. h k (omega arith) lt (eq-eqb (get_or left k 0) 10 e))

-- by the first sixteen
pub first_of_sixteen : (left : List ℕ) (at : ℕ) → 16 ≤ length left → at ≡ prefix_len (λ octet. not (is_byte 10 octet)) (take 16 left) → at < 16
    → IsFirstByte (is_byte 10) left (Some at)
first_of_sixteen left at long is few =
    let p : ℕ → Bool = λ octet. not (is_byte 10 octet) in
    let size : length (take 16 left) ≡ 16 = length-take-le 16 left long in
    let stops : p (get_or (take 16 left) (prefix_len p (take 16 left)) 0) ≡ false = prefix_len_stops p (take 16 left) 0 (omega (arith, is, few, size)) in
    let here : p (get_or left at 0) ≡ false = ap p (sym (get_or-take 16 left at 0 few)) ∙ ap (λ k. p (get_or (take 16 left) k 0)) is ∙ stops in
    let before : (k : ℕ) → k < at → p (get_or left k 0) ≡ true =
    λ k lt. ap p (sym (get_or-take 16 left k 0 (omega (arith, lt, few)))) ∙ prefix_len_passes p (take 16 left) k 0 (omega (arith, lt, is)) in (
      record { low = omega arith; high = omega (arith, few, long); before = λ k low lt e. both_ways (is_byte 10 (get_or left k 0)) e (before k lt) },
      not-false (is_byte 10 (get_or left at 0)) here,
    )
  where
    both_ways : (b : Bool) → b ≡ true → not b ≡ true → ⊥
    both_ways true e h = absurd (cc h)
    both_ways false e h = absurd (cc e)

    not-false : (b : Bool) → not b ≡ false → b ≡ true
    not-false true h = refl
    not-false false h = absurd (cc h)

-- ---- the lines of a text

pub open-append : (xs ys : List ℕ) → IsOpen xs → IsOpen ys → IsOpen (xs ++ ys)
open-append [] ys h k = k
open-append (x ∷ xs) ys h k = (h.0, open-append xs ys h.1 k)

-- a line that ends
pub ends_line : (begun rest : List ℕ) → IsOpen begun → lines_of (begun ++ 10 ∷ rest) ≡ begun ∷ lines_of rest
unfolding lines_of
ends_line [] rest none = refl
ends_line (b ∷ begun) rest none = let test : nat_eq b 10 ≡ false = ne_eqb b 10 none.0 in rw (test, ends_line begun rest none.1) refl

last_line : (b : ℕ) (begun : List ℕ) → IsOpen (b ∷ begun) → lines_of (b ∷ begun) ≡ (b ∷ begun) ∷ lines_of []
unfolding lines_of
last_line b [] none = let test : nat_eq b 10 ≡ false = ne_eqb b 10 none.0 in rw test refl
last_line b (c ∷ begun) none = let test : nat_eq b 10 ≡ false = ne_eqb b 10 none.0 in rw (test, last_line c begun none.1) refl

-- the last line, where one has begun and lacks its line feed
pub ends_text : (begun : List ℕ) → IsOpen begun → (begun ≡ [] → ⊥) → lines_of (begun ++ []) ≡ begun ∷ lines_of []
ends_text [] none some = absurd (some refl)
ends_text (b ∷ begun) none some = ap lines_of (append-nil (b ∷ begun)) ∙ last_line b begun none
