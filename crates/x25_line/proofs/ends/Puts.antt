-- What is known of an end in each session, once one of these is another.
use Rattle.x25_line.proofs.Names.{◌≡◌, ◌==◌, ◌⊎◌, inl, inr, ℕ, Bool, true, false, if◌then◌else◌, refl, ap, ◌∙◌, sym, eq-eqb, eqb-true, Peer, put_for}

-- a session is this one, or another by the test of put_for
pub same_or_other : (n b : ℕ) → (n ≡ b) ⊎ ((n == b) ≡ false)
same_or_other n b = go (n == b) refl
  where
    go : (x : Bool) → (n == b) ≡ x → (n ≡ b) ⊎ ((n == b) ≡ false)
    go true e = inl (eqb-true n b e)
    go false e = inr e

-- in session b an end is what was put there
pub put_same : (b n : ℕ) (r : Peer) (all : ℕ → Peer) → n ≡ b → put_for b r all n ≡ r
put_same b n r all is = ap (λ x. if x then r else all n) (eq-eqb n b is)

-- in each other session it is what it was
pub put_apart : (b n : ℕ) (r : Peer) (all : ℕ → Peer) → (n == b) ≡ false → put_for b r all n ≡ all n
put_apart b n r all not = ap (λ x. if x then r else all n) not

pub put_other : (b n : ℕ) (r : Peer) (all : ℕ → Peer) → (n ≡ b → ⊥) → put_for b r all n ≡ all n
put_other b n r all never = elim (same_or_other n b) [ inl is ↦ absurd (never is) | inr not ↦ put_apart b n r all not ]

-- what the other has in common with the one
pub put_alike : {X : Type 0} (f : Peer → X) (b : ℕ) (r : Peer) (all : ℕ → Peer) → f r ≡ f (all b) → (n : ℕ) → f (put_for b r all n) ≡ f (all n)
put_alike f b r all same n = elim (same_or_other n b) [
  | inl is ↦ ap f (put_same b n r all is) ∙ same ∙ ap (λ m. f (all m)) (sym is)
  | inr not ↦ ap f (put_apart b n r all not)
]
