-- Octets at the front of a text, up to the first character that is no digit.
use Rattle.x25_text.proofs.Names.{ℕ, zero, suc, ◌≡◌, ◌<◌, ◌≤◌, ◌+◌, ◌*◌, ◌%◌, ◌∙◌, Bool, true, false, cond, List, [], ◌∷◌, ◌++◌, length, map, take, drop}
use Rattle.x25_text.proofs.Names.{get_or, refl, ap, sym, arith, Option, Some, None, ◌&&◌, nat_lt, list_all, ltb-false, ltb-true, length-drop, length-take-le}
use Rattle.std.proofs.{Common.{◌^◌, not}, lemmas.Bool.{le-leb, lt-leb}, lemmas.List.{length-map, take-map}, lemmas.Simd.{first_set_mask_l, mask_l-mod}}
use Rattle.std.specs.{Int.{trailing_zeros, w64}, List.{prefix_len}, Prelude.{IfSome, nat_eq, nat_le}, Simd.Lanes.{mask_l, put_chunk}}
use Rattle.x25_text.proofs.{BlockLemmas.{Reads, both_of, octets_of-append, stored_block}, LaneLemmas.{block_read, tops_of_map}}
use Rattle.x25_text.{proofs.Names.{take-take, top, take-add, octets_of, value_of}, specs.Hexadecimal.{paired}}

-- what passes the test stands at the front
pub front_all : (p : ℕ → Bool) (n : ℕ) (xs : List ℕ) → n ≤ prefix_len p xs → list_all p (take n xs) ≡ true
front_all p zero xs h = refl
front_all p (suc n) [] h = absurd (omega (arith, h))
front_all p (suc n) (x ∷ xs) h = go (p x) h (λ le. front_all p n xs le)
  where
    go : (b : Bool) → suc n ≤ cond b (1 + prefix_len p xs) 0 → (n ≤ prefix_len p xs → list_all p (take n xs) ≡ true) → (b && list_all p (take n xs)) ≡ true
    go true h rest = rest (omega (arith, h))
    go false h rest = absurd (omega (arith, h))

-- of a front so many pass as of the whole, but no more than there are
prefix_take : (p : ℕ → Bool) (n : ℕ) (xs : List ℕ) → (prefix_len p (take n xs) ≤ prefix_len p xs)
    × (prefix_len p (take n xs) < n → n ≤ length xs → prefix_len p xs ≡ prefix_len p (take n xs))
prefix_take p zero xs = (omega arith, λ less long. absurd (omega (arith, less)))
prefix_take p (suc n) [] = (omega arith, λ less long. absurd (omega (arith, long)))
prefix_take p (suc n) (x ∷ xs) = go (p x) (prefix_take p n xs)
  where
    go : (b : Bool) → (prefix_len p (take n xs) ≤ prefix_len p xs)
        × (prefix_len p (take n xs) < n → n ≤ length xs → prefix_len p xs ≡ prefix_len p (take n xs))
        → (cond b (1 + prefix_len p (take n xs)) 0 ≤ cond b (1 + prefix_len p xs) 0)
        × (cond b (1 + prefix_len p (take n xs)) 0 < suc n → suc n ≤ suc (length xs)
        → cond b (1 + prefix_len p xs) 0 ≡ cond b (1 + prefix_len p (take n xs)) 0)
    go true h = (omega (arith, h.0), λ less long. omega (arith, h.1 (omega (arith, less)) (omega (arith, long))))
    go false h = (omega arith, λ less long. refl)

-- behind a front that passes as a whole
prefix_drop : (p : ℕ → Bool) (n : ℕ) (xs : List ℕ) → n ≤ prefix_len p xs → prefix_len p xs ≡ n + prefix_len p (drop n xs)
prefix_drop p zero xs h = omega arith
prefix_drop p (suc n) [] h = absurd (omega (arith, h))
prefix_drop p (suc n) (x ∷ xs) h = go (p x) h (prefix_drop p n xs)
  where
    go : (b : Bool) → suc n ≤ cond b (1 + prefix_len p xs) 0 → (n ≤ prefix_len p xs → prefix_len p xs ≡ n + prefix_len p (drop n xs))
        → cond b (1 + prefix_len p xs) 0 ≡ suc n + prefix_len p (drop n xs)
    go true h rest = omega (arith, rest (omega (arith, h)))
    go false h rest = absurd (omega (arith, h))

-- the digits go on in a block of so many characters, or end there
pub digits_on : (p : ℕ → Bool) (n block : ℕ) (xs : List ℕ) → n ≤ prefix_len p xs → n + block ≤ length xs
    → (prefix_len p (take block (drop n xs)) ≡ block → n + block ≤ prefix_len p xs)
    × (prefix_len p (take block (drop n xs)) < block → prefix_len p xs ≡ n + prefix_len p (take block (drop n xs)))
digits_on p n block xs front within =
    let whole = prefix_drop p n xs front in
    let part = prefix_take p block (drop n xs) in (
      λ all. omega (arith, whole, part.0, all),
      λ less. omega (arith, whole, part.1 less (omega (arith, within, length-drop n xs))),
    )

not_above : (x : ℕ) → not (nat_le 16 x) ≡ nat_lt x 16
not_above x = go (nat_lt x 16) refl
  where
    go : (b : Bool) → nat_lt x 16 ≡ b → not (nat_le 16 x) ≡ nat_lt x 16
    go true e = ap not (lt-leb 16 x (ltb-true x 16 e)) ∙ sym e
    go false e = ap not (le-leb 16 x (ltb-false x 16 e)) ∙ sym e

top_all : (b : Bool) → top 7 (cond b 255 0) ≡ b
top_all true = refl
top_all false = refl

-- the lanes that are too large, as a mask
pub leading_is : (v z : List ℕ) → length v ≡ 16 → z ≡ map (λ x. cond (nat_le 16 x) 255 0) v
    → cond (nat_eq (mask_l (map (top 7) z) % 2 ^ 64) 0) 16 (trailing_zeros w64 (mask_l (map (top 7) z) % 2 ^ 64)) ≡ prefix_len (λ x. nat_lt x 16) v
leading_is v z long lanes =
    let above : ℕ → Bool = nat_le 16 in
    let tops : map (top 7) z ≡ map above v = tops_of_map (λ x. cond (nat_le 16 x) 255 0) v lanes ∙ ap (λ f. map f v) (λ i x. top_all (nat_le 16 x) i) in
    let mask : mask_l (map (top 7) z) % 2 ^ 64 ≡ mask_l (map above v) =
    ap (λ l. mask_l l % 2 ^ 64) tops ∙ mask_l-mod (map above v) 64 (omega (arith, length-map v above, long)) in
    ap (λ m. cond (nat_eq m 0) 16 (trailing_zeros w64 m)) mask
    ∙ first_set_mask_l above v 16 long (omega arith)
    ∙ ap (λ p. prefix_len p v) (λ i x. not_above x i)

-- so many digits of sixteen characters
pub front_read : (count many : ℕ) (v values : List ℕ) → length v ≡ 16 → ((i : ℕ) → get_or v i 0 < 256) → values ≡ map value_of v
    → many ≡ prefix_len (λ x. nat_lt x 16) values → 2 * count ≤ many → 2 * count ≤ 16 → octets_of (take (2 * count) v) ≡ Some (paired (take (2 * count) values))
front_read count many v values long fits e front le few =
    let part = take (2 * count) v in
    let mapped : take (2 * count) values ≡ map value_of part = ap (take (2 * count)) e ∙ take-map value_of (2 * count) v in
    let all : list_all (λ x. nat_lt x 16) (map value_of part) ≡ true =
    ap (list_all (λ x. nat_lt x 16)) (sym mapped) ∙ front_all (λ x. nat_lt x 16) (2 * count) values (omega (arith, front, le)) in
    block_read count part (length-take-le (2 * count) v (omega (arith, long, few))) (fits_front (2 * count) v fits) all ∙ ap (λ l. Some (paired l)) (sym mapped)
  where
    fits_front : (n : ℕ) (v : List ℕ) → ((i : ℕ) → get_or v i 0 < 256) → (i : ℕ) → get_or (take n v) i 0 < 256
    fits_front zero v f i = omega arith
    fits_front (suc n) [] f i = omega arith
    fits_front (suc n) (x ∷ v) f zero = f 0
    fits_front (suc n) (x ∷ v) f (suc i) = fits_front n v (λ j. f (suc j)) i

-- so many octets more
pub reads_on : (size count block : ℕ) (text octets next : List ℕ) → Reads size count text octets → 2 * (count + block) ≤ length text
    → octets_of (take (2 * block) (drop (2 * count) text)) ≡ Some (take block (drop count next)) → take count next ≡ take count octets → length next ≡ size
    → Reads size (count + block) text next
reads_on size count block text octets next reads within read before long =
    let twice : 2 * (count + block) ≡ 2 * count + 2 * block = omega arith in
    record {
      long = long;
      same =
          ap (λ n. octets_of (take n text)) twice ∙ ap octets_of (take-add (2 * count) (2 * block) text)
          ∙ octets_of-append count (take (2 * count) text) (take (2 * block) (drop (2 * count) text)) (length-take-le (2 * count) text (omega (arith, within)))
          ∙ (λ i. both_of (reads.same i) (read i))
          ∙ ap (λ front. Some (front ++ take block (drop count next))) (sym before)
          ∙ ap (λ l. Some l) (sym (take-add count block next));
    }

-- the front of a block that was stored
pub stored_front : (place count : ℕ) (octets block : List ℕ) → length block ≡ 8 → place + 8 ≤ length octets → count ≤ 8
    → take count (drop place (put_chunk place octets block)) ≡ take count block
stored_front place count octets block long room le =
    sym (take-take count 8 (drop place (put_chunk place octets block)) le) ∙ ap (take count) (stored_block place 8 octets block long room)

-- what follows from two clauses on the value in a `Some`
pub IfSome_both : (r : Option ℕ) {P Q R : ℕ → Type 0} → IfSome r P → IfSome r Q → ((n : ℕ) → P n → Q n → R n) → IfSome r R
IfSome_both (Some n) p q f = f n p q
IfSome_both None p q f = p
