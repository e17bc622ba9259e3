-- Sessions that meet one to one.
use Rattle.x25_peer.proofs.Names.{◌≡◌, ℕ, suc, ◌==◌, ◌⊎◌, inl, inr, List, [], ◌∷◌, Bool, true, false, refl, sym, subst, ◌∙◌, if◌then◌else◌, eq-eqb, arith}
use Rattle.x25_peer.proofs.Names.{eqb-true, Meeting, meets, Said, Tells, SomeMet, all_some}
use Rattle.std.proofs.Common.{◌+◌, ◌<◌}
use Rattle.x25_line.proofs.ends.Meetings.{all_map, all_no_earlier}
use Rattle.x25_line.specs.laws.SessionClaims.{Each, IsNoEarlier, InStep}

-- these two sessions met each other, or none
abbrev pub CanMeet : ℕ → ℕ → List Meeting → Type 0
CanMeet n m met = Each (λ p. (p.near ≡ n → p.far ≡ m) × (p.far ≡ m → p.near ≡ n)) met

-- true isn't false
pub true_false : {A : Type 0} → true ≡ false → A
true_false e = absurd (cc)

-- so they did before
pub could_meet : (n m : ℕ) (b : Bool) (s : Said) (x : Meeting) (met : List Meeting) → CanMeet n m (if b then meets s x met else met) → CanMeet n m met
could_meet n m true (Tells carried nr) x met h = h.1
could_meet n m true s x met h = h
could_meet n m false s x met h = h

-- what holds of all and what holds of all, at once
pub all_both : (P Q : Meeting → Type 0) (ms : List Meeting) → Each P ms → Each Q ms → Each (λ (m : Meeting). P m × Q m) ms
all_both P Q [] h g = tt
all_both P Q (m ∷ ms) h g = ((h.0, g.0), all_both P Q ms h.1 g.1)

-- ---- in step

abbrev AreOne : ℕ → ℕ → Meeting → Type 0
AreOne n m p = (p.near ≡ n → p.far ≡ m) × (p.far ≡ m → p.near ≡ n)

as_one : (m p : Meeting) → IsNoEarlier m p → AreOne m.near m.far p
as_one m p (inl same) = (λ _. same.1, λ _. same.0)
as_one m p (inr less) = (λ is. absurd (omega (arith, is, less.0)), λ is. absurd (omega (arith, is, less.1)))

back_as_one : {m p : Meeting} → IsNoEarlier m p → AreOne p.near p.far m
back_as_one (inl same) = (λ _. sym same.1, λ _. sym same.0)
back_as_one (inr less) = (λ is. absurd (omega (arith, is, less.0)), λ is. absurd (omega (arith, is, less.1)))

-- each two that met could meet
pub met_can_meet : (met : List Meeting) → InStep met → Each (λ (p : Meeting). CanMeet p.near p.far met) met
met_can_meet [] h = tt
met_can_meet (x ∷ met) h =
    let before = all_no_earlier x met h in
    (((λ _. refl, λ _. refl), all_map (IsNoEarlier x) (AreOne x.near x.far) (as_one x) met before), more met before (met_can_meet met h.1))
  where
    more : (ps : List Meeting) → Each (IsNoEarlier x) ps → Each (λ (p : Meeting). CanMeet p.near p.far met) ps
        → Each (λ (p : Meeting). CanMeet p.near p.far (x ∷ met)) ps
    more [] f g = tt
    more (p ∷ ps) f g = ((back_as_one f.0, g.0), more ps f.1 g.1)

-- ---- each session of the station could meet one

-- it met some, or none
finds : (n : ℕ) (met : List Meeting) → SomeMet (λ (p : Meeting). p.near ≡ n) met ⊎ Each (λ (p : Meeting). p.near ≡ n → ⊥) met
finds n [] = inr tt
finds n (p ∷ met) = by (p.near == n) refl (finds n met)
  where
    by : (b : Bool) → (p.near == n) ≡ b → SomeMet (λ (p : Meeting). p.near ≡ n) met ⊎ Each (λ (p : Meeting). p.near ≡ n → ⊥) met
        → SomeMet (λ p. p.near ≡ n) (p ∷ met) ⊎ Each (λ p. p.near ≡ n → ⊥) (p ∷ met)
    by true is rest = inl (inl (eqb-true p.near n is))
    by false is rest = elim rest [ inl some ↦ inl (inr some) | inr none ↦ inr (λ e. true_false (sym (eq-eqb p.near n e) ∙ is), none) ]

-- a number over all that were met
abbrev over : List Meeting → ℕ
over [] = 0
over (p ∷ met) = suc (p.far + over met)

below_over : (top : ℕ) (met : List Meeting) → over met < suc top → Each (λ (p : Meeting). p.far < top) met
below_over top [] low = tt
below_over top (p ∷ met) low = (let is : over (p ∷ met) ≡ suc (p.far + over met) = refl in
    (omega (arith, low, is), below_over top met (omega (arith, low, is))))

-- a session can meet some session
pub could_meet_some : (n : ℕ) (met : List Meeting) → InStep met → (m : ℕ) × CanMeet n m met
could_meet_some n met h = elim (finds n met) [
  | inl some ↦ all_some (λ p. CanMeet p.near p.far met) (λ p. p.near ≡ n) ((m : ℕ) × CanMeet n m met)
      (λ (p : Meeting) can is. (p.far, subst (λ k. CanMeet k p.far met) is can)) met (met_can_meet met h) some
  | inr none ↦ (
    over met,
    all_map (λ p. (p.near ≡ n → ⊥) × (p.far < over met)) (AreOne n (over met))
        (λ (p : Meeting) apart. (λ is. absurd (apart.0 is), λ is. absurd (omega (arith, is, apart.1)))) met
        (all_both (λ p. p.near ≡ n → ⊥) (λ p. p.far < over met) met none (below_over (over met) met (omega arith))),
  )
]
