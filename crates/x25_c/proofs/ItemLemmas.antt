-- The items in the places of two lists, one behind the other.
use Rattle.x25_c.proofs.Names.{◌≡◌, ◌∙◌, ℕ, ◌<◌, ◌≤◌, ◌+◌, List, [], ◌∷◌, ◌++◌, length, map, get_or, Some, None, refl, arith, ap, sym, inl, inr, true≢false}
use Rattle.x25_c.proofs.Names.{slice_get}
use Rattle.std.proofs.{Common.{◌⊎◌, drop}, lemmas.List.{length-append, length-map}}
use Rattle.std.{proofs.lemmas.Option.{slice_get-map, slice_get_cases, slice_get_past, slice_get_within}, specs.Option.{option_map}}
use Rattle.std.specs.Prelude.{is_some, suc, zero}

pub in_first : {X : Type 0} (xs ys : List X) (i : ℕ) → i < length xs → slice_get (xs ++ ys) i ≡ slice_get xs i
in_first [] ys i lt = absurd (omega arith)
in_first (x ∷ xs) ys zero lt = refl
in_first (x ∷ xs) ys (suc i) lt = in_first xs ys i (omega arith)

pub in_second : {X : Type 0} (xs ys : List X) (i n : ℕ) → i ≡ length xs + n → slice_get (xs ++ ys) i ≡ slice_get ys n
in_second [] ys i n at = let e : i ≡ n = omega arith in ap (slice_get ys) e
in_second (x ∷ xs) ys zero n at = absurd (omega arith)
in_second (x ∷ xs) ys (suc i) n at = in_second xs ys i n (omega arith)

-- in no place of a list
none_there : {X : Type 0} (xs : List X) (i : ℕ) → slice_get xs i ≡ None → ((x : X) × (i < length xs) × (slice_get xs i ≡ Some x) × (get_or xs i x ≡ x))
    ⊎ ((length xs ≤ i) × (slice_get xs i ≡ None)) → length xs ≤ i
none_there xs i missing (inl found) = absurd (true≢false (sym (ap is_some found.2) ∙ ap is_some missing))
none_there xs i missing (inr past) = past.0

pub past_from : {X : Type 0} (xs : List X) (i : ℕ) → slice_get xs i ≡ None → length xs ≤ i
past_from xs i missing = none_there xs i missing (slice_get_cases xs i).1

-- of a list and one more behind it
module _ {X Y : Type 0} (f : X → Y) (xs : List X) (last : Y) (i : ℕ) where
  pub before_last : (x : X) → slice_get xs i ≡ Some x → slice_get (map f xs ++ last ∷ []) i ≡ Some (f x)
  before_last x at =
      let there : slice_get (map f xs) i ≡ Some (f x) = slice_get-map f xs i ∙ ap (option_map f) at in
      in_first (map f xs) (last ∷ []) i (slice_get_within (map f xs) i (f x) there) ∙ there

  pub at_last : i ≡ length xs → slice_get (map f xs ++ last ∷ []) i ≡ Some last
  at_last at = in_second (map f xs) (last ∷ []) i 0 (omega (arith, length-map xs f))

  pub behind_last : length xs < i → slice_get (map f xs ++ last ∷ []) i ≡ None
  behind_last past = slice_get_past (map f xs ++ last ∷ []) i (omega (arith, length-append (map f xs) (last ∷ []), length-map xs f))

-- in a place of what is left of a list
pub at_drop : {X : Type 0} (n : ℕ) (xs : List X) (k : ℕ) → slice_get (drop n xs) k ≡ slice_get xs (n + k)
at_drop zero xs k = let e : k ≡ zero + k = omega arith in ap (slice_get xs) e
at_drop (suc n) [] k = refl
at_drop (suc n) (x ∷ xs) k = let e : suc (n + k) ≡ suc n + k = omega arith in at_drop n xs k ∙ ap (slice_get (x ∷ xs)) e
