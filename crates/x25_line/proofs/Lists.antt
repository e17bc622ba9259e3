-- What holds of each of a list, as more follows of each, and as the list grows.
use Rattle.x25_line.{proofs.Names.{List, [], ◌∷◌, ◌++◌, map}, specs.laws.StationClaims.{Each}}

-- what holds of all of both lists holds of all of one list of both
pub each_append : {T : Type 0} (P : T → Type 0) (xs ys : List T) → Each P xs → Each P ys → Each P (xs ++ ys)
each_append P [] ys f g = g
each_append P (x ∷ xs) ys f g = (f.0, each_append P xs ys f.1 g)

-- what follows of each follows of all
pub each_map : {T : Type 0} (P Q : T → Type 0) → ((x : T) → P x → Q x) → (xs : List T) → Each P xs → Each Q xs
each_map P Q f [] h = tt
each_map P Q f (x ∷ xs) h = (f x h.0, each_map P Q f xs h.1)

-- so it is of a list that is made of it
pub each_over : {T U : Type 0} (P : T → Type 0) (Q : U → Type 0) (g : T → U) → ((x : T) → P x → Q (g x)) → (xs : List T) → Each P xs → Each Q (map g xs)
each_over P Q g f [] h = tt
each_over P Q g f (x ∷ xs) h = (f x h.0, each_over P Q g f xs h.1)
