-- The first item of what is left of a list.
use Rattle.x25_link.proofs.Names.{◌≡◌, ℕ, zero, suc, ◌+◌, ◌<◌, List, [], ◌∷◌, length, drop, Some, ◌∙◌, arith}
use Rattle.std.proofs.Common.{slice_get, add-one}

pub record First (n : ℕ) (xs : List (List ℕ)) (x : List ℕ) (rest : List (List ℕ)) : Type 0 where
  pub below : n < length xs
  pub item : slice_get xs n ≡ Some x
  pub left : rest ≡ drop (n + 1) xs

pub drop_first : (n : ℕ) (xs : List (List ℕ)) (x : List ℕ) (rest : List (List ℕ)) → x ∷ rest ≡ drop n xs → First n xs x rest
drop_first zero [] x rest e = absurd (none e)
  where
    none : x ∷ rest ≡ [] → ⊥
    none e = cc
drop_first (suc n) [] x rest e = absurd (none e)
  where
    none : x ∷ rest ≡ [] → ⊥
    none e = cc
drop_first zero (y ∷ xs) x rest e = record { below = omega arith; item = cc; left = cc }
drop_first (suc n) (y ∷ xs) x rest e =
    let inner = drop_first n xs x rest e in
    record { below = omega (arith, inner.below); item = inner.item; left = inner.left ∙ simp add-one }
