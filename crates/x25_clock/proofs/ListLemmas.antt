-- A list whose elements are changed one after another, from the front.
use Rattle.x25_clock.proofs.Names.{◌≡◌, ℕ, zero, suc, ◌+◌, ◌<◌, ◌≤◌, List, [], ◌∷◌, ◌++◌, length, map, slice_index_or, drop, refl, sym, ap, ◌∙◌, arith}
use Rattle.std.proofs.Common.{slice_set, take, append-nil}

-- those from a place on changed
abbrev pub left_mapped : {A : Type 0} → (A → A) → ℕ → List A → List A
left_mapped f zero xs = map f xs
left_mapped f (suc n) [] = []
left_mapped f (suc n) (x ∷ xs) = x ∷ left_mapped f n xs

one_more : {A : Type 0} (f : A → A) (n : ℕ) (xs : List A) (d : A) → n < length xs → left_mapped f (suc n) (slice_set xs n (f (slice_index_or xs n d)))
    ≡ left_mapped f n xs
one_more f zero (x ∷ xs) d low = refl
one_more f (suc n) (x ∷ xs) d low = ap (λ l. x ∷ l) (one_more f n xs d (omega (arith, low)))
one_more f n [] d low = absurd (omega (arith, low))

pub changed_more : {A : Type 0} (f : A → A) (n : ℕ) (xs all : List A) (d : A) → n < length xs → left_mapped f n xs ≡ map f all
    → left_mapped f (n + 1) (slice_set xs n (f (slice_index_or xs n d))) ≡ map f all
changed_more f n xs all d low h =
    let more : n + 1 ≡ suc n = omega arith in
    ap (λ (k : ℕ). left_mapped f k (slice_set xs n (f (slice_index_or xs n d)))) more ∙ one_more f n xs d low ∙ h

all_mapped : {A : Type 0} (f : A → A) (n : ℕ) (xs : List A) → length xs ≤ n → left_mapped f n xs ≡ xs
all_mapped f zero [] few = refl
all_mapped f zero (x ∷ xs) few = absurd (omega (arith, few))
all_mapped f (suc n) [] few = refl
all_mapped f (suc n) (x ∷ xs) few = ap (λ l. x ∷ l) (all_mapped f n xs (omega (arith, few)))

take_all : {A : Type 0} (n : ℕ) (xs : List A) → length xs ≤ n → take n xs ≡ xs
take_all zero [] few = refl
take_all zero (x ∷ xs) few = absurd (omega (arith, few))
take_all (suc n) [] few = refl
take_all (suc n) (x ∷ xs) few = ap (λ l. x ∷ l) (take_all n xs (omega (arith, few)))

drop_all : {A : Type 0} (n : ℕ) (xs : List A) → length xs ≤ n → drop n xs ≡ []
drop_all zero [] few = refl
drop_all zero (x ∷ xs) few = absurd (omega (arith, few))
drop_all (suc n) [] few = refl
drop_all (suc n) (x ∷ xs) few = drop_all n xs (omega (arith, few))

-- what was changed is written back to the vector
pub written_back : {A : Type 0} (f : A → A) (n len : ℕ) (xs old : List A) → left_mapped f n xs ≡ map f old → length xs ≤ n → length old ≤ len → length xs
    ≡ length old → take len (xs ++ drop (length xs) old) ≡ map f old
written_back f n len xs old h all high same =
    ap (λ l. take len (xs ++ l)) (drop_all (length xs) old (omega (arith, same)))
    ∙ ap (take len) (append-nil xs) ∙ take_all len xs (omega (arith, high, same))
    ∙ sym (all_mapped f n xs all) ∙ h
