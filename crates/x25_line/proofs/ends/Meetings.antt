-- Which sessions meet: one to one, and in order at both ends; and the same as the other end has it.
use Rattle.x25_line.proofs.Names.{◌≡◌, ◌≤◌, ◌<◌, ℕ, List, [], ◌∷◌, ◌⊎◌, inl, inr, map, refl, ap, ◌∙◌, arith, Meeting, turned, Each, SomeMet}
use Rattle.x25_line.proofs.Lists.{each_map, each_over}
use Rattle.x25_line.specs.laws.SessionClaims.{IsNoEarlier, IsAbove, InStep}

-- ---- of all that met, and of some

-- what follows of each meeting follows of all
pub all_map : (P Q : Meeting → Type 0) → ((m : Meeting) → P m → Q m) → (ms : List Meeting) → Each P ms → Each Q ms
all_map = each_map

-- two sessions that met and are so, by what holds of all that met
pub all_some : (P Q : Meeting → Type 0) (R : Type 0) → ((m : Meeting) → P m → Q m → R) → (ms : List Meeting) → Each P ms → SomeMet Q ms → R
all_some P Q R f [] h g = absurd g
all_some P Q R f (m ∷ ms) h g = elim g [ inl here ↦ f m h.0 here | inr there ↦ all_some P Q R f ms h.1 there ]

no_earlier_trans : {a b c : Meeting} → IsNoEarlier a b → IsNoEarlier b c → IsNoEarlier a c
no_earlier_trans (inl same) (inl again) = inl (again.0 ∙ same.0, again.1 ∙ same.1)
no_earlier_trans (inl same) (inr less) = inr (omega (arith, same.0, less.0), omega (arith, same.1, less.1))
no_earlier_trans (inr less) (inl same) = inr (omega (arith, same.0, less.0), omega (arith, same.1, less.1))
no_earlier_trans (inr less) (inr more) = inr (omega (arith, less.0, more.0), omega (arith, less.1, more.1))

-- all that met before are the same two sessions or earlier ones
pub all_no_earlier : (m : Meeting) (ms : List Meeting) → InStep (m ∷ ms) → Each (IsNoEarlier m) ms
all_no_earlier m [] h = tt
all_no_earlier m (n ∷ ms) h = (h.0, all_map (IsNoEarlier n) (IsNoEarlier m) (λ (x : Meeting) before. no_earlier_trans h.0 before) ms (all_no_earlier n ms h.1))

-- ---- the two that stand

-- it is the two sessions that stand, or an earlier one of each end
abbrev pub IsPaired : ℕ → ℕ → Meeting → Type 0
IsPaired p q m = ((m.near ≡ p) × (m.far ≡ q)) ⊎ ((m.near < p) × (m.far < q))

abbrev pub IsBegun : ℕ → ℕ → Meeting → Type 0
IsBegun p q m = (m.near ≤ p) × (m.far ≤ q)

pub begun_later : (near far p q : ℕ) (met : List Meeting) → near ≤ p → far ≤ q → Each (IsBegun near far) met → Each (IsBegun p q) met
begun_later near far p q met f g = all_map (IsBegun near far) (IsBegun p q) (λ m h. (omega (arith, h.0, f), omega (arith, h.1, g))) met

pub paired_anew : (near far p q : ℕ) (met : List Meeting) → near < p → far < q → Each (IsBegun near far) met → Each (IsPaired p q) met
paired_anew near far p q met f g = all_map (IsBegun near far) (IsPaired p q) (λ m h. inr (omega (arith, h.0, f), omega (arith, h.1, g))) met

pub above_paired : (p q : ℕ) (met : List Meeting) → Each (IsPaired p q) met → IsAbove (record { near = p; far = q }) met
above_paired p q [] h = tt
above_paired p q (m ∷ ms) h = h.0

-- ---- as the other end has it

-- seen from the other end twice, meetings are as they were
pub twice_turned : (met : List Meeting) → map turned (map turned met) ≡ met
twice_turned [] = refl
twice_turned (m ∷ ms) = ap (λ xs. m ∷ xs) (twice_turned ms)

pub begun_turned : (p q : ℕ) (met : List Meeting) → Each (IsBegun p q) met → Each (IsBegun q p) (map turned met)
begun_turned p q = each_over (IsBegun p q) (IsBegun q p) turned (λ m h. (h.1, h.0))

pub paired_turned : (p q : ℕ) (met : List Meeting) → Each (IsPaired p q) met → Each (IsPaired q p) (map turned met)
paired_turned p q = each_over (IsPaired p q) (IsPaired q p) turned (λ m h. elim h [ inl same ↦ inl (same.1, same.0) | inr less ↦ inr (less.1, less.0) ])

above_turned : (m : Meeting) (met : List Meeting) → IsAbove m met → IsAbove (turned m) (map turned met)
above_turned m [] h = tt
above_turned m (n ∷ ms) h = elim h [ inl same ↦ inl (same.1, same.0) | inr less ↦ inr (less.1, less.0) ]

pub in_step_turned : (met : List Meeting) → InStep met → InStep (map turned met)
in_step_turned [] h = tt
in_step_turned (m ∷ ms) h = (above_turned m ms h.0, in_step_turned ms h.1)

pub near_turned : (n : ℕ) (met : List Meeting) → SomeMet (λ (m : Meeting). m.near ≡ n) met → SomeMet (λ (m : Meeting). m.far ≡ n) (map turned met)
near_turned n [] h = h
near_turned n (m ∷ ms) h = elim h [ inl here ↦ inl here | inr there ↦ inr (near_turned n ms there) ]

-- a session of the far end that met, seen from there
pub far_turned : (n : ℕ) (met : List Meeting) → SomeMet (λ (m : Meeting). m.far ≡ n) met → SomeMet (λ (m : Meeting). m.near ≡ n) (map turned met)
far_turned n [] h = h
far_turned n (m ∷ ms) h = elim h [ inl here ↦ inl here | inr there ↦ inr (far_turned n ms there) ]

-- ---- the latest

-- who meets the near end's session that stands is the latest
pub meets : {p q near far : ℕ} {m : Meeting} → near ≡ p → far ≤ q → IsBegun near far m → IsPaired p q m → m.near ≡ near → (m.far ≡ far) × (q ≡ far)
meets is high begun (inl same) here = (omega (arith, same.1, begun.1, high), omega (arith, same.1, begun.1, high))
meets is high begun (inr less) here = absurd (omega (arith, less.0, is, here))

pub all_meet : (p q near far : ℕ) (met : List Meeting) → near ≡ p → far ≤ q → Each (IsBegun near far) met → Each (IsPaired p q) met
    → Each (λ (m : Meeting). m.near ≡ near → m.far ≡ far) met
all_meet p q near far [] is high begun paired = tt
all_meet p q near far (m ∷ ms) is high begun paired = (λ here. (meets is high begun.0 paired.0 here).0, all_meet p q near far ms is high begun.1 paired.1)

pub some_meets : (p q near far : ℕ) (met : List Meeting) → near ≡ p → far ≤ q → Each (IsBegun near far) met → Each (IsPaired p q) met
    → SomeMet (λ (m : Meeting). m.near ≡ near) met → q ≡ far
some_meets p q near far [] is high begun paired some = absurd some
some_meets p q near far (m ∷ ms) is high begun paired some =
    elim some [ inl here ↦ (meets is high begun.0 paired.0 here).1 | inr there ↦ some_meets p q near far ms is high begun.1 paired.1 there ]
