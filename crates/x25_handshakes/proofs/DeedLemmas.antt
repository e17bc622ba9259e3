-- The deeds of an end that keeps the rules, at each level: nothing, or one thing, also once it took a packet; and what that keeps.
use Rattle.x25_handshakes.proofs.Names.{◌≡◌, List, [], ◌∷◌, ◌++◌, refl, sym, ap, ◌∙◌, subst, append-nil, append_assoc}

-- the deeds of a peer at one level: which it may do, what it is then, and the packet that it sends
pub record Deeds (Y D P : Type 0) : Type 1 where
  pub may : Y → D → Type 0
  pub does : Y → D → Y
  pub packet : Y → D → P

-- Nothing, or one thing that the peer y may do: it is y₂ then, and sent these packets.
pub data Did {Y D P : Type 0} (k : Deeds Y D P) (y y₂ : Y) (o : List P) : Type 0 where
  Nothing : y ≡ y₂ → [] ≡ o → Did k y y₂ o
  Something : (d : D) → k.may y d → k.does y d ≡ y₂ → k.packet y d ∷ [] ≡ o → Did k y y₂ o

-- A packet was taken, by which the peer is y and sent the first packets, and then it did nothing or one thing.
pub record Heard {Y D P : Type 0} (k : Deeds Y D P) (y : Y) (first : List P) (y₂ : Y) (o : List P) : Type 0 where
  pub rest : List P
  pub split : first ++ rest ≡ o
  pub did : Did k y y₂ rest

-- a packet was taken, and then nothing was done
pub at_once : {Y D P : Type 0} (k : Deeds Y D P) (y : Y) (first : List P) (y₂ : Y) (o : List P) → y ≡ y₂ → first ≡ o → Heard k y first y₂ o
at_once k y first y₂ o next out = record { rest = []; split = append-nil first ∙ out; did = Nothing next refl }

-- nothing was done, or one thing, and no packet was taken
pub none : {Y D P : Type 0} {k : Deeds Y D P} {y y₂ : Y} → y ≡ y₂ → Heard k y [] y₂ []
none same = record { rest = []; split = refl; did = Nothing same refl }

pub deed : {Y D P : Type 0} {k : Deeds Y D P} {y y₂ : Y} {o : List P} (d : D) → k.may y d → k.does y d ≡ y₂ → k.packet y d ∷ [] ≡ o → Heard k y [] y₂ o
deed {o} d may next sent = record { rest = o; split = refl; did = Something d may next sent }

-- what each deed keeps, it keeps
did_keeps : {Y D P : Type 0} {k : Deeds Y D P} {y y₂ : Y} {o : List P} (R : Y → List P → Type 0)
    → ((z : Y) (d : D) (u : List P) → k.may z d → R z u → R (k.does z d) (u ++ k.packet z d ∷ [])) → Did k y y₂ o → (u : List P) → R y u → R y₂ (u ++ o)
did_keeps {y} {y₂} R deed (Nothing same none) u h = subst (λ l. R y₂ (u ++ l)) none (subst (R y₂) (sym (append-nil u)) (subst (λ z. R z u) same h))
did_keeps {k} {y} {y₂} R deed (Something d may next sent) u h =
    subst (λ l. R y₂ (u ++ l)) sent (subst (λ z. R z (u ++ k.packet y d ∷ [])) next (deed y d u may h))

-- and so where a packet was taken first
pub heard_keeps : {Y D P : Type 0} {k : Deeds Y D P} {y y₂ : Y} {first o : List P} (R : Y → List P → Type 0)
    → ((z : Y) (d : D) (u : List P) → k.may z d → R z u → R (k.does z d) (u ++ k.packet z d ∷ [])) → Heard k y first y₂ o → (u : List P)
    → R y (u ++ first) → R y₂ (u ++ o)
heard_keeps {y₂} {first} R deed h u before =
    subst (R y₂) (append_assoc u first h.rest ∙ ap (λ l. u ++ l) h.split) (did_keeps R deed h.did (u ++ first) before)

pub acts_keep : {Y D P : Type 0} {k : Deeds Y D P} {y y₂ : Y} {o : List P} (R : Y → List P → Type 0)
    → ((z : Y) (d : D) (u : List P) → k.may z d → R z u → R (k.does z d) (u ++ k.packet z d ∷ [])) → Heard k y [] y₂ o → (u : List P) → R y u → R y₂ (u ++ o)
acts_keep {y} R deeds h u before = heard_keeps R deeds h u (subst (R y) (sym (append-nil u)) before)
