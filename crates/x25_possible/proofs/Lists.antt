-- What is in a list.
use Rattle.x25_possible.proofs.Names.{◌≡◌, ◌⊎◌, inl, inr, List, [], ◌∷◌, ◌++◌, flat_map, refl, subst, IsIn}

pub in_left : {X : Type 0} (xs ys : List X) (x : X) → IsIn x xs → IsIn x (xs ++ ys)
in_left [] ys x h = absurd h
in_left (z ∷ zs) ys x (inl e) = inl e
in_left (z ∷ zs) ys x (inr h) = inr (in_left zs ys x h)

pub in_right : {X : Type 0} (xs ys : List X) (x : X) → IsIn x ys → IsIn x (xs ++ ys)
in_right [] ys x h = h
in_right (z ∷ zs) ys x h = inr (in_right zs ys x h)

pub in_either : {X : Type 0} (xs ys : List X) (x : X) → IsIn x (xs ++ ys) → IsIn x xs ⊎ IsIn x ys
in_either [] ys x h = inr h
in_either (z ∷ zs) ys x (inl e) = inl (inl e)
in_either (z ∷ zs) ys x (inr h) = ⊎_elim' (in_either zs ys x h)
  where
    ⊎_elim' : IsIn x zs ⊎ IsIn x ys → IsIn x (z ∷ zs) ⊎ IsIn x ys
    ⊎_elim' (inl g) = inl (inr g)
    ⊎_elim' (inr g) = inr g

pub in_all : {X Y : Type 0} (f : X → List Y) (xs : List X) (x : X) (y : Y) → IsIn x xs → IsIn y (f x) → IsIn y (flat_map f xs)
in_all f [] x y h g = absurd h
in_all f (z ∷ zs) x y (inl e) g = in_left (f z) (flat_map f zs) y (subst (λ w. IsIn y (f w)) e g)
in_all f (z ∷ zs) x y (inr h) g = in_right (f z) (flat_map f zs) y (in_all f zs x y h g)

pub from_all : {X Y : Type 0} (f : X → List Y) (xs : List X) (y : Y) → IsIn y (flat_map f xs) → (x : X) × IsIn x xs × IsIn y (f x)
from_all f [] y h = absurd h
from_all f (z ∷ zs) y h = go (in_either (f z) (flat_map f zs) y h) (from_all f zs y)
  where
    go : IsIn y (f z) ⊎ IsIn y (flat_map f zs) → (IsIn y (flat_map f zs) → (x : _) × IsIn x zs × IsIn y (f x))
        → (x : _) × IsIn x (z ∷ zs) × IsIn y (f x)
    go (inl g) rest = (z, inl refl, g)
    go (inr g) rest = let r = rest g in (r.0, inr r.1, r.2)

pub none_in : {X : Type 0} (xs : List X) → ((x : X) → IsIn x xs → ⊥) → xs ≡ []
none_in [] h = refl
none_in (x ∷ xs) h = absurd (h x (inl refl))
