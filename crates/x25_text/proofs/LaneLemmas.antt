-- Sixteen characters at a time, lane by lane.
use Rattle.x25_text.proofs.Names.{ℕ, zero, suc, ◌≡◌, ◌<◌, ◌≤◌, ◌+◌, ◌-◌, ◌*◌, ◌/◌, ◌%◌, ◌∙◌, Bool, true, false, cond, List, [], ◌∷◌, length, map, take, get_or}
use Rattle.x25_text.proofs.Names.{refl, ap, sym, arith, ◌==◌, ◌&&◌, nat_lt, list_all, eqb-true, ltb-true, ltb-false, agree_below, agree_below_at, top}
use Rattle.std.proofs.{Common.{◌^◌, inl, inr, Fits, w8}, Math.Nat.{pow-suc}, lemmas.Bool.{cases_eq, eq-eqb, ne_eqb, and_parts}, lemmas.Nat.{pow_pos}}
use Rattle.std.specs.{Prelude.{nat_eq, Option, Some, None}, Simd.Lanes.{Each1, sel_l, mask_l, number_l}}
use Rattle.x25_text.{proofs.DigitTable.{a_digit, no_digit}, proofs.Names.{hex_digit_value, octets_of, joined, value_of}, specs.Hexadecimal.{paired}}

-- ---- the test of all lanes

same_test : (a b c d : ℕ) → (a ≡ b → c ≡ d) → (c ≡ d → a ≡ b) → nat_eq a b ≡ nat_eq c d
same_test a b c d f g = elim (cases_eq a b) [
  | inl e ↦ eq-eqb a b e ∙ sym (eq-eqb c d (f e))
  | inr n ↦ ne_eqb a b n ∙ sym (ne_eqb c d (λ e. n (g e)))
]

-- all bits of the mask are set where the test holds of all
pub mask_full : (p : ℕ → Bool) (xs : List ℕ) → nat_eq (mask_l (map p xs)) (2 ^ length xs - 1) ≡ list_all p xs
mask_full p [] = refl
mask_full p (x ∷ xs) = go (p x) (mask_full p xs)
  where
    some : 1 ≤ 2 ^ length xs
    some = omega (arith, pow_pos (length xs))

    twice : 2 ^ suc (length xs) ≡ 2 * 2 ^ length xs
    twice = omega (arith, pow-suc 2 (length xs))

    go : (b : Bool) → nat_eq (mask_l (map p xs)) (2 ^ length xs - 1) ≡ list_all p xs
        → nat_eq (cond b 1 0 + 2 * mask_l (map p xs)) (2 ^ suc (length xs) - 1) ≡ (b && list_all p xs)
    go true rest =
        same_test (1 + 2 * mask_l (map p xs)) (2 ^ suc (length xs) - 1) (mask_l (map p xs)) (2 ^ length xs - 1)
        (λ e. omega (arith, e, twice, some)) (λ e. omega (arith, e, twice, some))
        ∙ rest
    go false rest = ne_eqb (0 + 2 * mask_l (map p xs)) (2 ^ suc (length xs) - 1) (λ e. omega (arith, e, twice, some))

-- ---- the value of each lane

pub fits_each : (v : List ℕ) → Each1 (Fits w8) v → (i : ℕ) → get_or v i 0 < 256
fits_each [] h i = omega arith
fits_each (x ∷ v) h zero = omega (arith, h.0.fits)
fits_each (x ∷ v) h (suc i) = fits_each v h.1 i

pub sel_of_maps : (m : ℕ → Bool) (f g : ℕ → ℕ) (v : List ℕ) {ms : List Bool} {xs ys : List ℕ} → ms ≡ map m v → xs ≡ map f v → ys ≡ map g v
    → sel_l ms xs ys ≡ map (λ c. cond (m c) (f c) (g c)) v
sel_of_maps m f g v a b c = (λ i. sel_l (a i) (b i) (c i)) ∙ of_maps v
  where
    of_maps : (v : List ℕ) → sel_l (map m v) (map f v) (map g v) ≡ map (λ c. cond (m c) (f c) (g c)) v
    of_maps [] = refl
    of_maps (x ∷ v) = ap (λ r. cond (m x) (f x) (g x) ∷ r) (of_maps v)

pub tops_of_map : (f : ℕ → ℕ) (v : List ℕ) {xs : List ℕ} → xs ≡ map f v → map (top 7) xs ≡ map (λ c. top 7 (f c)) v
tops_of_map f v e = ap (map (top 7)) e ∙ of_map v
  where
    of_map : (v : List ℕ) → map (top 7) (map f v) ≡ map (λ c. top 7 (f c)) v
    of_map [] = refl
    of_map (x ∷ v) = ap (λ r. top 7 (f x) ∷ r) (of_map v)

-- two functions of a character that agree at each of the 256
pub same_map : (f g : ℕ → ℕ) (v : List ℕ) → agree_below (λ c. f c == g c) (λ _. true) 256 ≡ true → ((i : ℕ) → get_or v i 0 < 256) → map f v ≡ map g v
same_map f g [] t h = refl
same_map f g (x ∷ v) t h =
    let here : f x ≡ g x = eqb-true _ _ (agree_below_at (λ c. f c == g c) (λ _. true) 256 x t (h 0)) in
    λ i. here i ∷ same_map f g v t (λ j. h (suc j)) i

-- ---- two lanes for each octet

unfoldable pub octet_at : List ℕ → ℕ → ℕ
octet_at w k = (get_or w (2 * k) 0 * 16 % 256 + get_or w (2 * k + 1) 0) % 256

unfoldable pub octets_from : List ℕ → ℕ → ℕ → List ℕ
octets_from w k zero = []
octets_from w k (suc n) = octet_at w k ∷ octets_from w (k + 1) n

pub joined_is : (n k : ℕ) (v w : List ℕ) → length v ≡ 2 * n → list_all (λ x. nat_lt x 16) v ≡ true
    → ((j : ℕ) → j < 2 * n → get_or w (2 * k + j) 0 ≡ get_or v j 0) → octets_from w k n ≡ paired v
unfolding octets_from octet_at
joined_is zero k [] w e all same = refl
joined_is zero k (x ∷ v) w e all same = absurd (omega arith)
joined_is (suc n) k [] w e all same = absurd (omega arith)
joined_is (suc n) k (x ∷ []) w e all same = absurd (omega arith)
joined_is (suc n) k (high ∷ low ∷ v) w e all same =
    let first = and_parts (nat_lt high 16) (list_all (λ x. nat_lt x 16) (low ∷ v)) all in
    let second = and_parts (nat_lt low 16) (list_all (λ x. nat_lt x 16) v) first.1 in
    let small : high < 16 = ltb-true high 16 first.0 in
    let little : low < 16 = ltb-true low 16 second.0 in
    let here : get_or w (2 * k) 0 ≡ high = ap (λ m. get_or w m 0) (zero_more (2 * k)) ∙ same 0 (omega arith) in
    let there : get_or w (2 * k + 1) 0 ≡ low = same 1 (omega arith) in
    let octet : (get_or w (2 * k) 0 * 16 % 256 + get_or w (2 * k + 1) 0) % 256 ≡ high * 16 + low = omega (arith, here, there, small, little) in
    let rest : octets_from w (k + 1) n ≡ paired v = joined_is n (k + 1) v w (omega arith) second.1
    (λ j h. ap (λ m. get_or w m 0) (on k j) ∙ same (suc (suc j)) (omega arith)) in
    λ i. octet i ∷ rest i
  where
    zero_more : (m : ℕ) → m ≡ m + 0
    zero_more m = omega arith

    on : (k j : ℕ) → 2 * (k + 1) + j ≡ 2 * k + suc (suc j)
    on k j = omega arith

pub take_octets_from : (count k n : ℕ) (w : List ℕ) → count ≤ n → take count (octets_from w k n) ≡ octets_from w k count
unfolding octets_from
take_octets_from zero k n w h = refl
take_octets_from (suc count) k zero w h = absurd (omega (arith, h))
take_octets_from (suc count) k (suc n) w h = ap (λ rest. octet_at w k ∷ rest) (take_octets_from count (k + 1) n w (omega (arith, h)))

-- ---- the octets of a block

pub block_read : (n : ℕ) (v : List ℕ) → length v ≡ 2 * n → ((i : ℕ) → get_or v i 0 < 256) → list_all (λ x. nat_lt x 16) (map value_of v) ≡ true
    → octets_of v ≡ Some (paired (map value_of v))
unfolding octets_of
block_read zero [] e fits all = refl
block_read zero (x ∷ v) e fits all = absurd (omega arith)
block_read (suc n) [] e fits all = absurd (omega arith)
block_read (suc n) (x ∷ []) e fits all = absurd (omega arith)
block_read (suc n) (high ∷ low ∷ v) e fits all =
    let first = and_parts (nat_lt (value_of high) 16) (list_all (λ x. nat_lt x 16) (map value_of (low ∷ v))) all in
    let second = and_parts (nat_lt (value_of low) 16) (list_all (λ x. nat_lt x 16) (map value_of v)) first.1 in
    let small : value_of high < 16 = ltb-true (value_of high) 16 first.0 in
    let little : value_of low < 16 = ltb-true (value_of low) 16 second.0 in
    let rest = block_read n v (omega arith) (λ i. fits (suc (suc i))) second.1 in
    let one = a_digit high (value_of high) refl (omega (arith, small)) in
    let two = a_digit low (value_of low) refl (omega (arith, little)) in
    λ i. joined (one i) (two i) (rest i)

none_behind : (a b : Option ℕ) → joined a b None ≡ None
none_behind (Some h) (Some l) = refl
none_behind (Some h) None = refl
none_behind None b = refl

none_low : (a : Option ℕ) (r : Option (List ℕ)) → joined a None r ≡ None
none_low (Some h) r = refl
none_low None r = refl

pub block_fault : (n : ℕ) (v : List ℕ) → length v ≡ 2 * n → ((i : ℕ) → get_or v i 0 < 256) → list_all (λ x. nat_lt x 16) (map value_of v) ≡ false
    → octets_of v ≡ None
unfolding octets_of
block_fault zero [] e fits all = cc all
block_fault zero (x ∷ v) e fits all = absurd (omega arith)
block_fault (suc n) [] e fits all = absurd (omega arith)
block_fault (suc n) (x ∷ []) e fits all = absurd (omega arith)
block_fault (suc n) (high ∷ low ∷ v) e fits all =
    go (nat_lt (value_of high) 16) (nat_lt (value_of low) 16) refl refl all (λ h. block_fault n v (omega arith) (λ i. fits (suc (suc i))) h)
  where
    go : (s t : Bool) → nat_lt (value_of high) 16 ≡ s → nat_lt (value_of low) 16 ≡ t → (s && (t && list_all (λ x. nat_lt x 16) (map value_of v))) ≡ false
        → (list_all (λ x. nat_lt x 16) (map value_of v) ≡ false → octets_of v ≡ None)
        → joined (hex_digit_value high) (hex_digit_value low) (octets_of v) ≡ None
    go false t s_is t_is h rest =
        let large : 16 ≤ value_of high = ltb-false (value_of high) 16 s_is in
        ap (λ a. joined a (hex_digit_value low) (octets_of v)) (no_digit high (value_of high) (fits 0) refl (omega (arith, large)))
    go true false s_is t_is h rest =
        let large : 16 ≤ value_of low = ltb-false (value_of low) 16 t_is in
        ap (λ b. joined (hex_digit_value high) b (octets_of v)) (no_digit low (value_of low) (fits 1) refl (omega (arith, large)))
        ∙ none_low (hex_digit_value high) (octets_of v)
    go true true s_is t_is h rest =
        ap (joined (hex_digit_value high) (hex_digit_value low)) (rest h)
        ∙ none_behind (hex_digit_value high) (hex_digit_value low)

pub length-paired : (n : ℕ) (v : List ℕ) → length v ≡ 2 * n → length (paired v) ≡ n
length-paired zero [] e = refl
length-paired zero (x ∷ v) e = absurd (omega arith)
length-paired (suc n) [] e = absurd (omega arith)
length-paired (suc n) (x ∷ []) e = absurd (omega arith)
length-paired (suc n) (high ∷ low ∷ v) e = ap suc (length-paired n v (omega arith))

-- ---- an octet in each word

unfoldable pub words_from : ℕ → ℕ → List ℕ
words_from x zero = []
words_from x (suc n) = x % 65536 * 4097 % 65536 / 256 ∷ words_from (x / 65536) n

pub words_are : (n : ℕ) (v : List ℕ) → length v ≡ 2 * n → list_all (λ x. nat_lt x 16) v ≡ true → words_from (number_l 256 v) n ≡ paired v
unfolding words_from
words_are zero [] e all = refl
words_are zero (x ∷ v) e all = absurd (omega arith)
words_are (suc n) [] e all = absurd (omega arith)
words_are (suc n) (x ∷ []) e all = absurd (omega arith)
words_are (suc n) (high ∷ low ∷ v) e all =
    let first = and_parts (nat_lt high 16) (list_all (λ x. nat_lt x 16) (low ∷ v)) all in
    let second = and_parts (nat_lt low 16) (list_all (λ x. nat_lt x 16) v) first.1 in
    let small : high < 16 = ltb-true high 16 first.0 in
    let little : low < 16 = ltb-true low 16 second.0 in
    let others = number_l 256 v in
    let octet : (high + 256 * (low + 256 * others)) % 65536 * 4097 % 65536 / 256 ≡ high * 16 + low = omega (arith, small, little) in
    let behind : (high + 256 * (low + 256 * others)) / 65536 ≡ others = omega (arith, small, little) in
    let rest : words_from ((high + 256 * (low + 256 * others)) / 65536) n ≡ paired v = ap (λ x. words_from x n) behind ∙ words_are n v (omega arith) second.1 in
    λ i. octet i ∷ rest i

-- the lower octet of each word
unfoldable pub lower_of : ℕ → ℕ → List ℕ
lower_of x zero = []
lower_of x (suc n) = x % 256 ∷ lower_of (x / 256 / 256) n

pub lower_are : (n : ℕ) (v : List ℕ) → length v ≡ 2 * n → list_all (λ x. nat_lt x 16) v ≡ true → lower_of (number_l 65536 (paired v)) n ≡ paired v
unfolding lower_of
lower_are zero [] e all = refl
lower_are zero (x ∷ v) e all = absurd (omega arith)
lower_are (suc n) [] e all = absurd (omega arith)
lower_are (suc n) (x ∷ []) e all = absurd (omega arith)
lower_are (suc n) (high ∷ low ∷ v) e all =
    let first = and_parts (nat_lt high 16) (list_all (λ x. nat_lt x 16) (low ∷ v)) all in
    let second = and_parts (nat_lt low 16) (list_all (λ x. nat_lt x 16) v) first.1 in
    let small : high < 16 = ltb-true high 16 first.0 in
    let little : low < 16 = ltb-true low 16 second.0 in
    let others = number_l 65536 (paired v) in
    let octet : (high * 16 + low + 65536 * others) % 256 ≡ high * 16 + low = omega (arith, small, little) in
    let behind : (high * 16 + low + 65536 * others) / 256 / 256 ≡ others = omega (arith, small, little) in
    let rest : lower_of ((high * 16 + low + 65536 * others) / 256 / 256) n ≡ paired v = ap (λ x. lower_of x n) behind ∙ lower_are n v (omega arith) second.1 in
    λ i. octet i ∷ rest i
