-- A frame of a set-up is on the line where one of its places has it.
use Rattle.x25_world.proofs.Names.{◌≡◌, ℕ, ◌+◌, ◌<◌, Bool, true, false, ◌||◌, List, [], length, take, Some, None, slice_get, sym, ap, ap₂, ◌∙◌, list_any}
use Rattle.std.proofs.lemmas.{List.Folds.{list_any_at, list_any_more}, Option.{get_or_from_slice_get, slice_get-get_or}}

-- what stands at this place passes the test
pub found_at : {X : Type 0} (p : X → Bool) (xs : List X) (i : ℕ) (x : X) → i < length xs → Some x ≡ slice_get xs i → p x ≡ true → list_any p xs ≡ true
found_at p xs i x within at passes = list_any_at p xs i x within (ap p (get_or_from_slice_get xs i x x (sym at)) ∙ passes)

-- it doesn't pass, as nothing before it does
pub not_found_yet : {X : Type 0} (p : X → Bool) (xs : List X) (i : ℕ) (x : X) → i < length xs → Some x ≡ slice_get xs i → list_any p (take i xs) ≡ false → p x
    ≡ false
    → list_any p (take (i + 1) xs) ≡ false
not_found_yet p xs i x within at before fails =
    list_any_more p xs i x within ∙ ap₂ (λ a b. a || b) before (ap p (get_or_from_slice_get xs i x x (sym at)) ∙ fails)

-- something stands at each place
pub none_there : {A : Type 0} (xs : List (List ℕ)) (i : ℕ) → i < length xs → None ≡ slice_get xs i → A
none_there {A} xs i within none = absurd (never (none ∙ slice_get-get_or xs i [] within))
  where
    never : {x : List ℕ} → None ≡ Some x → ⊥
    never e = cc
