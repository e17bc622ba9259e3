-- What a line that loses or damages one is then, and what still holds of each on it.
use Rattle.x25_line.proofs.Names.{ℕ, zero, suc, List, [], ◌∷◌, length, LessAt, nothing, gone, hurt, deeper, replaced, IsSeen, Entry, IsSeenIn, octets_of}
use Rattle.x25_line.specs.laws.{Loss.{remove}, StationClaims.{Each}}

module _ {T : Type 0} {Damage : T → T → Type 0} where
  -- it loses none
  pub untouched : (xs : List T) → LessAt Damage (length xs) xs xs
  untouched [] = nothing 0
  untouched (x ∷ xs) = deeper (length xs) x xs xs (untouched xs)

  -- one is lost
  pub removes : (xs : List T) (i : ℕ) → LessAt Damage i xs (remove xs i)
  removes [] zero = nothing 0
  removes [] (suc i) = nothing (suc i)
  removes (x ∷ xs) zero = gone x xs
  removes (x ∷ xs) (suc i) = deeper i x xs (remove xs i) (removes xs i)

  -- one is damaged
  pub replaces : (damaged : T → T) → ((x : T) → Damage x (damaged x)) → (xs : List T) (i : ℕ) → LessAt Damage i xs (replaced xs i damaged)
  replaces damaged hurts [] i = nothing i
  replaces damaged hurts (x ∷ xs) zero = hurt x (damaged x) xs (hurts x)
  replaces damaged hurts (x ∷ xs) (suc i) = deeper i x xs (replaced xs i damaged) (replaces damaged hurts xs i)

  -- what holds of each, where it holds of what comes in the place of another
  pub each_less : (P : T → Type 0) → ((x y : T) → Damage x y → P x → P y) → {i : ℕ} {xs ys : List T} → LessAt Damage i xs ys → Each P xs → Each P ys
  each_less P hurts (nothing j) h = h
  each_less P hurts (gone x xs) h = h.1
  each_less P hurts (hurt x y xs damage) h = (hurts x y damage h.0, h.1)
  each_less P hurts (deeper j x xs ys l) h = (h.0, each_less P hurts l h.1)

-- the same of the octets alone
pub octets_less : {i : ℕ} {es fs : List Entry} → LessAt IsSeenIn i es fs → LessAt IsSeen i (octets_of es) (octets_of fs)
octets_less (nothing j) = nothing j
octets_less (gone e xs) = gone e.octets (octets_of xs)
octets_less (hurt e f xs seen) = hurt e.octets f.octets (octets_of xs) seen.1
octets_less (deeper j e xs ys l) = deeper j e.octets (octets_of xs) (octets_of ys) (octets_less l)
