-- Half octets by their place, and digits packed into octets.
use Rattle.x25_packet.proofs.Names.{ℕ, zero, suc, ◌+◌, ◌-◌, ◌*◌, ◌/◌, ◌%◌, ◌<◌, ◌≤◌, ◌≡◌, ◌≢◌, ◌∙◌, Bool, true, false, List, [], ◌∷◌, ◌++◌, length, get_or}
use Rattle.x25_packet.proofs.Names.{take, drop, refl, ap, sym, arith, nat_eq, ◌&&◌, nat_le, list_all, take-append-drop, list_all-append, and_parts, leb-true}
use Rattle.std.proofs.{Math.Bool.{and-true}, Math.Seq.{drop-nil, take-nil}, lemmas.List.{append-nil, drop-drop, drop-take, length-map, take-take}}
use Rattle.x25_packet.{proofs.Names.{le-leb, and_from, IsAddress, halves_at, halves_of, is_digit, hold_digits}, specs.Digits.{digits_of_text, is_pair, is_figure}}

pub length-halves_of : (octets : List ℕ) → length (halves_of octets) ≡ 2 * length octets
unfolding halves_of
length-halves_of [] = refl
length-halves_of (b ∷ octets) = let rest = length-halves_of octets in omega arith

pub high_half : (octets : List ℕ) (k : ℕ) → get_or (halves_of octets) (2 * k) 0 ≡ get_or octets k 0 / 16
unfolding halves_of
high_half [] k = refl
high_half (b ∷ octets) zero = refl
high_half (b ∷ octets) (suc k) = let at : 2 * suc k ≡ suc (suc (2 * k)) = omega arith in rw at (high_half octets k)

pub low_half : (octets : List ℕ) (k : ℕ) → get_or (halves_of octets) (2 * k + 1) 0 ≡ get_or octets k 0 % 16
unfolding halves_of
low_half [] k = refl
low_half (b ∷ octets) zero = refl
low_half (b ∷ octets) (suc k) = let at : 2 * suc k + 1 ≡ suc (suc (2 * k + 1)) = omega arith in rw at (low_half octets k)

-- the half octets of the octets behind some, and of the first of some
halves_of-drop : (n : ℕ) (octets : List ℕ) → halves_of (drop n octets) ≡ drop (2 * n) (halves_of octets)
unfolding halves_of
halves_of-drop zero octets = refl
halves_of-drop (suc n) [] = sym (drop-nil (2 * suc n))
halves_of-drop (suc n) (b ∷ octets) = let at : 2 * suc n ≡ suc (suc (2 * n)) = omega arith in rw at (halves_of-drop n octets)

halves_of-take : (n : ℕ) (octets : List ℕ) → halves_of (take n octets) ≡ take (2 * n) (halves_of octets)
unfolding halves_of
halves_of-take zero octets = refl
halves_of-take (suc n) [] = sym (take-nil (2 * suc n))
halves_of-take (suc n) (b ∷ octets) =
    let at : 2 * suc n ≡ suc (suc (2 * n)) = omega arith in
    rw at (ap (λ (halves : List ℕ). b / 16 ∷ b % 16 ∷ halves) (halves_of-take n octets))

-- half octets from a place on, in the octets that hold them
pub halves_held : (octets : List ℕ) (first place count held : ℕ) → place + count ≤ 2 * held
    → halves_at (take held (drop first octets)) place count ≡ halves_at octets (2 * first + place) count
halves_held octets first place count held room =
    let behind = drop (2 * first) (halves_of octets) in
    let size : 2 * held ≡ place + (2 * held - place) = omega (arith, room) in
    ap (λ (halves : List ℕ). take count (drop place halves))
    (halves_of-take held (drop first octets) ∙ ap (take (2 * held)) (halves_of-drop first octets))
    ∙ ap (λ (n : ℕ). take count (drop place (take n behind))) size
    ∙ ap (take count) (drop-take place (2 * held - place) behind)
    ∙ take-take count (2 * held - place) (drop place behind) (omega (arith, room))
    ∙ ap (take count) (drop-drop place (2 * first) (halves_of octets))

-- ---- what holds of each element of a list holds of its parts

pub list_all-take : (p : ℕ → Bool) (n : ℕ) (xs : List ℕ) → list_all p xs ≡ true → list_all p (take n xs) ≡ true
list_all-take p n xs h =
    let whole : list_all p (take n xs ++ drop n xs) ≡ true = rw take-append-drop h in
    (and_parts _ _ (sym (list_all-append p (take n xs) (drop n xs)) ∙ whole)).0

pub list_all-drop : (p : ℕ → Bool) (n : ℕ) (xs : List ℕ) → list_all p xs ≡ true → list_all p (drop n xs) ≡ true
list_all-drop p n xs h =
    let whole : list_all p (take n xs ++ drop n xs) ≡ true = rw take-append-drop h in
    (and_parts _ _ (sym (list_all-append p (take n xs) (drop n xs)) ∙ whole)).1

pub list_all-get : (p : ℕ → Bool) (xs : List ℕ) (i : ℕ) → list_all p xs ≡ true → i < length xs → p (get_or xs i 0) ≡ true
list_all-get p [] i h small = absurd (omega arith)
list_all-get p (x ∷ xs) zero h small = (and_parts _ _ h).0
list_all-get p (x ∷ xs) (suc i) h small = list_all-get p xs i (and_parts _ _ h).1 (omega arith)

pub figures_are_digits : (text : List ℕ) → list_all is_figure text ≡ true → list_all is_digit (digits_of_text text) ≡ true
figures_are_digits [] h = refl
figures_are_digits (c ∷ text) h =
    let parts = and_parts (is_figure c) (list_all is_figure text) h in
    let low : c ≤ 57 = leb-true c 57 (and_parts (nat_le 48 c) (nat_le c 57) parts.0).1 in
    and_from (is_digit (c - 48)) (list_all is_digit (digits_of_text text)) (le-leb (c - 48) 9 (omega (arith, low))) (figures_are_digits text parts.1)

-- figures, and no half octets behind them
pub figures_are_address : (text rest : List ℕ) → rest ≡ [] → length text ≤ 15 → list_all is_figure text ≡ true → IsAddress (digits_of_text text ++ rest)
figures_are_address text rest none short h = rw (none, append-nil) (record { short = rw length-map short; decimal = figures_are_digits text h })

-- the digit that a figure shows
pub digit_shown : (figures rest : List ℕ) (place : ℕ) → list_all is_digit (digits_of_text figures ++ rest) ≡ true → place < length figures
    → get_or figures place 0 - 48 ≤ 9
digit_shown [] rest place h small = absurd (omega arith)
digit_shown (c ∷ figures) rest zero h small = leb-true (c - 48) 9 (and_parts _ _ h).0
digit_shown (c ∷ figures) rest (suc place) h small = digit_shown figures rest place (and_parts _ _ h).1 (omega (arith, small))

pub half_even : (octets : List ℕ) (place : ℕ) → place % 2 ≡ 0 → get_or octets (place / 2) 0 / 16 ≡ get_or (halves_of octets) place 0
half_even octets place even =
    let at : place ≡ 2 * (place / 2) = omega arith in
    sym (ap (λ n. get_or (halves_of octets) n 0) at ∙ high_half octets (place / 2))

pub half_odd : (octets : List ℕ) (place : ℕ) → place % 2 ≢ 0 → get_or octets (place / 2) 0 % 16 ≡ get_or (halves_of octets) place 0
half_odd octets place odd =
    let at : place ≡ 2 * (place / 2) + 1 = omega arith in
    sym (ap (λ n. get_or (halves_of octets) n 0) at ∙ low_half octets (place / 2))

-- ---- whether half octets are digits

pub halves_are_digits : (octets : List ℕ) → list_all is_digit (halves_of octets) ≡ list_all is_pair octets
unfolding halves_of
halves_are_digits [] = refl
halves_are_digits (b ∷ octets) = rw (halves_are_digits octets) (regroup (is_digit (b / 16)) (is_digit (b % 16)) (list_all is_pair octets))
  where
    regroup : (x y z : Bool) → (x && (y && z)) ≡ ((x && y) && z)
    regroup true y z = refl
    regroup false y z = refl

-- what stands behind the digits is the low half of the last octet, or nothing
pub filler_is : (count : ℕ) (octets : List ℕ) → length octets ≤ (count + 1) / 2
    → list_all (λ half. nat_eq half 0) (drop count (halves_of octets)) ≡ nat_eq (get_or octets (count / 2) 0 % 16) 0
unfolding halves_of
filler_is zero [] few = refl
filler_is zero (b ∷ octets) few = absurd (omega (arith, few))
filler_is (suc zero) [] few = refl
filler_is (suc zero) (b ∷ []) few = and-true (nat_eq (b % 16) 0)
filler_is (suc zero) (b ∷ b' ∷ octets) few = absurd (omega (arith, few))
filler_is (suc (suc n)) [] few = refl
filler_is (suc (suc n)) (b ∷ octets) few =
    let at : suc (suc n) / 2 ≡ suc (n / 2) = omega arith in
    rw at (filler_is n octets (omega (arith, few)))

pub none_held : (count : ℕ) (octets : List ℕ) (b : Bool) → b ≡ list_all is_pair octets → b ≡ false → false ≡ hold_digits count octets
none_held count octets b is none = rw (halves_are_digits octets, sym is, none) refl

pub digits_held : (count : ℕ) (octets : List ℕ) (b : Bool) (last : ℕ) → b ≡ list_all is_pair octets → b ≡ true → length octets ≤ (count + 1) / 2
    → last ≡ get_or octets (count / 2) 0 → nat_eq (last % 16) 0 ≡ hold_digits count octets
digits_held count octets b last is all few last_is = rw (halves_are_digits octets, sym is, all, filler_is count octets few, last_is) refl
