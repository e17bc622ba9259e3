-- Octets that were read block by block, the last one over the one before it.
use Rattle.x25_text.proofs.Names.{ℕ, zero, suc, ◌≡◌, ◌≤◌, ◌+◌, ◌-◌, ◌*◌, ◌∙◌, List, [], ◌∷◌, ◌++◌, length, take, drop, Option, Some, None, Bool, true, false}
use Rattle.x25_text.proofs.Names.{refl, ap, sym, arith, length-drop, length-take-le, take_all, take-take, take-add, hex_digit_value, octets_of, joined}
use Rattle.std.proofs.{Common.{subst}, lemmas.List.{drop_at, take_at, take-append-drop}, lemmas.Simd.{put_chunk_is}}
use Rattle.std.specs.{Prelude.{if◌then◌else◌}, Simd.Lanes.{put_chunk}}

-- ---- a block that was stored

pub stored_block : (i n : ℕ) (xs ys : List ℕ) → length ys ≡ n → i + n ≤ length xs → take n (drop i (put_chunk i xs ys)) ≡ ys
stored_block i n xs ys e le =
    let rest = drop (length ys) (drop i xs) in
    ap (λ l. take n (drop i l)) (put_chunk_is i xs ys (omega arith))
    ∙ ap (take n) (drop_at (take i xs) (ys ++ rest) i (length-take-le i xs (omega arith))) ∙ take_at ys rest n e

pub before_block : (i : ℕ) (xs ys : List ℕ) → i + length ys ≤ length xs → take i (put_chunk i xs ys) ≡ take i xs
before_block i xs ys le =
    let rest = drop (length ys) (drop i xs) in
    ap (take i) (put_chunk_is i xs ys le) ∙ take_at (take i xs) (ys ++ rest) i (length-take-le i xs (omega arith))

-- ---- digits behind digits

abbrev pub both_of : Option (List ℕ) → Option (List ℕ) → Option (List ℕ)
both_of (Some x) (Some y) = Some (x ++ y)
both_of (Some x) None = None
both_of None y = None

joined_both : (h l : Option ℕ) (a b : Option (List ℕ)) → joined h l (both_of a b) ≡ both_of (joined h l a) b
joined_both (Some h) (Some l) (Some x) (Some y) = refl
joined_both (Some h) (Some l) (Some x) None = refl
joined_both (Some h) (Some l) None b = refl
joined_both (Some h) None a b = refl
joined_both None l a b = refl

nothing_before : (b : Option (List ℕ)) → b ≡ both_of (Some []) b
nothing_before (Some y) = refl
nothing_before None = refl

pub octets_of-append : (n : ℕ) (a b : List ℕ) → length a ≡ 2 * n → octets_of (a ++ b) ≡ both_of (octets_of a) (octets_of b)
unfolding octets_of
octets_of-append zero [] b e = nothing_before (octets_of b)
octets_of-append zero (x ∷ a) b e = absurd (omega arith)
octets_of-append (suc n) [] b e = absurd (omega arith)
octets_of-append (suc n) (x ∷ []) b e = absurd (omega arith)
octets_of-append (suc n) (h ∷ l ∷ a) b e =
    ap (joined (hex_digit_value h) (hex_digit_value l)) (octets_of-append n a b (omega arith))
    ∙ joined_both (hex_digit_value h) (hex_digit_value l) (octets_of a) (octets_of b)

both_fault : (a : Option (List ℕ)) → both_of a None ≡ None
both_fault (Some x) = refl
both_fault None = refl

length_octets : (n : ℕ) (a octets : List ℕ) → length a ≡ 2 * n → octets_of a ≡ Some octets → length octets ≡ n
unfolding octets_of
length_octets zero [] octets e h = let none : octets ≡ [] = cc h in ap length none
length_octets zero (x ∷ a) octets e h = absurd (omega arith)
length_octets (suc n) [] octets e h = absurd (omega arith)
length_octets (suc n) (x ∷ []) octets e h = absurd (omega arith)
length_octets (suc n) (high ∷ low ∷ a) octets e h =
    go (hex_digit_value high) (hex_digit_value low) (octets_of a) (λ x i. length_octets n a x (omega arith) i) octets h
  where
    go : (p q : Option ℕ) (r : Option (List ℕ)) → ((x : List ℕ) → r ≡ Some x → length x ≡ n) → (octets : List ℕ) → joined p q r ≡ Some octets → length octets
        ≡ suc n
    go (Some p) (Some q) (Some x) known octets h = let here : (p * 16 + q) ∷ x ≡ octets = cc h in ap length (sym here) ∙ ap suc (known x refl)
    go (Some p) (Some q) None known octets h = cc h
    go (Some p) None r known octets h = cc h
    go None q r known octets h = cc h

-- ---- the loop

-- the first octets are those of the first digits
pub record Reads (size count : ℕ) (digits octets : List ℕ) : Type 0 where
  pub long : length octets ≡ size
  pub same : octets_of (take (2 * count) digits) ≡ Some (take count octets)

pub reads_none : (digits octets : List ℕ) → Reads (length octets) (8 * 0) digits octets
unfolding octets_of
reads_none digits octets = record { long = refl; same = refl }

abbrev block_of : ℕ → ℕ → List ℕ → List ℕ
block_of count block digits = take (2 * block) (drop (2 * count) digits)

twice_more : (count block : ℕ) (digits : List ℕ) → take (2 * (count + block)) digits ≡ take (2 * count) digits ++ block_of count block digits
twice_more count block digits =
    let twice : 2 * (count + block) ≡ 2 * count + 2 * block = omega arith in
    ap (λ n. take n digits) twice ∙ take-add (2 * count) (2 * block) digits

-- a block more
pub reads_more : (size count block : ℕ) (digits octets next : List ℕ) → Reads size count digits octets → length digits ≡ 2 * size → count + block ≤ size
    → octets_of (block_of count block digits) ≡ Some (take block (drop count next)) → take count next ≡ take count octets → length next ≡ size
    → Reads size (count + block) digits next
reads_more size count block digits octets next reads whole within read before long = record {
  long = long;
  same =
      ap octets_of (twice_more count block digits)
      ∙ octets_of-append count (take (2 * count) digits) (block_of count block digits) (length-take-le (2 * count) digits (omega (arith, whole)))
      ∙ (λ i. both_of (reads.same i) (read i))
      ∙ ap (λ front. Some (front ++ take block (drop count next))) (sym before)
      ∙ ap (λ l. Some l) (sym (take-add count block next));
}

-- a block with a fault
pub reads_fault : (size count block : ℕ) (digits octets : List ℕ) → Reads size count digits octets → length digits ≡ 2 * size → count + block ≤ size
    → octets_of (block_of count block digits) ≡ None → octets_of digits ≡ None
reads_fault size count block digits octets reads whole within read =
    let rest = drop (2 * count) digits in
    let fault : octets_of rest ≡ None =
    ap octets_of (sym (take-append-drop (2 * block) rest))
    ∙ octets_of-append block (take (2 * block) rest) (drop (2 * block) rest)
    (length-take-le (2 * block) rest (omega (arith, length-drop (2 * count) digits, whole)))
    ∙ ap (λ a. both_of a (octets_of (drop (2 * block) rest))) read in
    ap octets_of (sym (take-append-drop (2 * count) digits))
    ∙ octets_of-append count (take (2 * count) digits) rest (length-take-le (2 * count) digits (omega (arith, whole)))
    ∙ ap (both_of (octets_of (take (2 * count) digits))) fault ∙ both_fault (octets_of (take (2 * count) digits))

-- fewer digits
pub reads_fewer : (size place count : ℕ) (digits octets : List ℕ) → Reads size count digits octets → length digits ≡ 2 * size → place ≤ count → count ≤ size
    → Reads size place digits octets
reads_fewer size place count digits octets reads whole le within = record {
  long = reads.long;
  same = go (octets_of front) (octets_of rest) refl (sym apart ∙ reads.same);
}
  where
    front : List ℕ
    front = take (2 * place) digits

    rest : List ℕ
    rest = block_of place (count - place) digits

    apart : octets_of (take (2 * count) digits) ≡ both_of (octets_of front) (octets_of rest)
    apart =
        let sum : count ≡ place + (count - place) = omega arith in
        ap (λ n. octets_of (take (2 * n) digits)) sum ∙ ap octets_of (twice_more place (count - place) digits)
        ∙ octets_of-append place front rest (length-take-le (2 * place) digits (omega (arith, whole)))

    go : (a b : Option (List ℕ)) → octets_of front ≡ a → both_of a b ≡ Some (take count octets) → octets_of front ≡ Some (take place octets)
    go (Some x) (Some y) is e =
        let same : x ++ y ≡ take count octets = cc e in
        let long : length x ≡ place = length_octets place front x (length-take-le (2 * place) digits (omega (arith, whole))) is in
        is ∙ ap (λ l. Some l) (sym (take_at x y place long) ∙ ap (take place) same ∙ take-take place count octets le)
    go (Some x) None is e = cc e
    go None b is e = cc e

pub reads_all : (size : ℕ) (digits octets : List ℕ) → Reads size size digits octets → length digits ≡ 2 * size → octets_of digits ≡ Some octets
reads_all size digits octets reads whole =
    ap octets_of (sym (take_all (2 * size) digits (omega (arith, whole)))) ∙ reads.same ∙ ap (λ l. Some l) (take_all size octets (omega (arith, reads.long)))

-- the last block, whether it has a fault or not
pub reads_last : (size count place block : ℕ) (digits octets next : List ℕ) (all : Bool) → Reads size count digits octets → length digits ≡ 2 * size
    → place ≤ count → count ≤ size → place + block ≡ size
    → octets_of (block_of place block digits) ≡ (if all then Some (take block (drop place next)) else None)
    → take place next ≡ take place octets → length next ≡ size → octets_of digits ≡ (if all then Some next else None)
reads_last size count place block digits octets next true reads whole le within end read before long =
    let fewer = reads_fewer size place count digits octets reads whole le within in
    let more = reads_more size place block digits octets next fewer whole (omega (arith, end)) read before long in
    reads_all size digits next (subst (λ n. Reads size n digits next) end more) whole
reads_last size count place block digits octets next false reads whole le within end read before long =
    let fewer = reads_fewer size place count digits octets reads whole le within in
    reads_fault size place block digits octets fewer whole (omega (arith, end)) read
