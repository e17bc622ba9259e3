-- Frames on the line, as clauses see them: one that is taken off, one in the place of another, and one that comes on it.
use Rattle.x25_world.proofs.Names.{◌≡◌, ℕ, zero, suc, List, [], ◌∷◌, map, take, drop, refl, ap, ◌∙◌, map-append, replaced, ◌+◌, ◌-◌, ◌<◌, ◌≤◌, ◌++◌, length}
use Rattle.x25_world.proofs.Names.{arith, sym, append_assoc, length-append, take-append-drop, Role, Dce, Dte, ShownLine, put_by}
use Rattle.std.{proofs.Common.{slice_index_or}, proofs.Math.ListN.{set}, proofs.lemmas.List.{map-set, take-map, drop-map, drop-drop}, specs.List.{remove}}

pub map-remove : {X Y : Type 0} (f : X → Y) (xs : List X) (k : ℕ) → map f (remove xs k) ≡ remove (map f xs) k
map-remove f xs k = map-append f (take k xs) (drop (suc k) xs) ∙ cc (take-map f k xs, drop-map f (suc k) xs)

replaced-set : (xs : List (List ℕ)) (k : ℕ) (y : List ℕ) → set xs k y ≡ replaced xs k (λ _. y)
replaced-set [] k y = refl
replaced-set (x ∷ xs) zero y = refl
replaced-set (x ∷ xs) (suc k) y = ap (λ l. x ∷ l) (replaced-set xs k y)

pub map-replaced : {X : Type 0} (f : X → List ℕ) (xs : List X) (k : ℕ) (y : X) → map f (set xs k y) ≡ replaced (map f xs) k (λ _. f y)
map-replaced f xs k y = map-set f xs k y ∙ replaced-set (map f xs) k (f y)

pub first_of : {X : Type 0} (f : X → List ℕ) (xs : List X) (k : ℕ) (d : X) → k < length xs → take 1 (drop k (map f xs)) ≡ f (slice_index_or xs k d) ∷ []
first_of f [] k d within = absurd (omega (arith, within))
first_of f (x ∷ xs) zero d within = refl
first_of f (x ∷ xs) (suc k) d within = first_of f xs k d (omega (arith, within))

sub_sum : (a b c : ℕ) → a - b - c ≡ a - (b + c)
sub_sum a b c = omega arith

put_twice : (line : ShownLine) (from : Role) (xs ys : List (List ℕ)) → put_by (put_by line from xs) from ys ≡ put_by line from (xs ++ ys)
put_twice line Dte xs ys = rw (append_assoc, length-append, sub_sum _ _ _) refl
put_twice line Dce xs ys = rw (append_assoc, length-append, sub_sum _ _ _) refl

pub one_more : (line : ShownLine) (from : Role) (frames : List (List ℕ)) (k : ℕ)
    → put_by (put_by line from (take 1 (drop k frames))) from (drop (k + 1) frames) ≡ put_by line from (drop k frames)
one_more line from frames k = put_twice line from (take 1 (drop k frames)) (drop (k + 1) frames)
    ∙ ap (λ l. put_by line from (take 1 (drop k frames) ++ l)) (sym (drop-drop 1 k frames))
    ∙ ap (put_by line from) (take-append-drop 1 (drop k frames))

pub one_at_most : {X : Type 0} (xs : List X) → length (take 1 xs) ≤ 1
one_at_most [] = omega arith
one_at_most (x ∷ xs) = omega arith
