-- The error of a facility field that is answered is the first.
use Rattle.x25_packet.proofs.Names.{ℕ, ◌<◌, ◌≡◌, ◌≢◌, ◌∙◌, true, false, List, [], ◌∷◌, ◌++◌, length, get_or, refl, ap, sym, subst, inl, inr, arith, nat_eq}
use Rattle.x25_packet.proofs.Names.{Option, Some, None, Result, Ok, Err, ◌&&◌, eqb-true, eqb-false, PacketError, Facilities, Directions, AreAllowed, AreWithin}
use Rattle.x25_packet.proofs.Names.{IfGiven, facilities_of, facility, field_of, is_within, last, windows_of, with_sizes, FieldError, wrong_code, cut_off}
use Rattle.x25_packet.{proofs.FacilityLaws.{chosen, within, both_within}, proofs.Names.{out_of_range}, specs.Reading.FirstError.{MayFollow}}
use Rattle.x25_packet.specs.declared.error.PacketError.TheVariants.{BadFacility, BadParameter}

pub err_ok : {A : Type 0} {v : A} {e : PacketError} → (let x : Result A PacketError = Ok v in let y : Result A PacketError = Err e in x ≡ y) → ⊥
err_ok h = cc

pub err_same : {A : Type 0} {a b : PacketError} → (let x : Result A PacketError = Err a in let y : Result A PacketError = Err b in x ≡ y) → a ≡ b
err_same h = cc

-- ---- in a facility field

not_windows : (sizes : Option Directions) (code : ℕ) → (sizes ≡ None → code ≢ 66) → code ≢ 67
    → ¬ MayFollow (record { packet_size = sizes; window_size = None }) code
not_windows None code first other m = elim m.known [ inl h ↦ first refl h | inr h ↦ other h ]
not_windows (Some values) code first other m = let rises : 66 < code = m.rises in elim m.known [ inl h ↦ absurd (omega arith) | inr h ↦ other h ]

windows_may : (sizes : Option Directions) → MayFollow (record { packet_size = sizes; window_size = None }) 67
windows_may None = record { rises = omega arith; known = inr refl }
windows_may (Some values) = record { rises = omega arith; known = inr refl }

not_after_windows : (sizes : Option Directions) (windows : Directions) (code : ℕ)
    → ¬ MayFollow (record { packet_size = sizes; window_size = Some windows }) code
not_after_windows None windows code m = let rises : 67 < code = m.rises in elim m.known [ inl h ↦ omega arith | inr h ↦ omega arith ]
not_after_windows (Some sizes) windows code m = let rises : 67 < code = m.rises in elim m.known [ inl h ↦ omega arith | inr h ↦ omega arith ]

not_within : (least most : ℕ) (values : Directions) → (is_within least most values.called && is_within least most values.calling) ≡ false
    → ¬ AreWithin least most values
not_within least most values h w = let bad : true ≡ false = sym (both_within least most values w) ∙ h in cc

some_none : {values : Directions} → Some values ≡ None → ⊥
some_none h = cc

front : (a b called calling : ℕ) (rest tail : List ℕ) → a ≡ b → rest ≡ tail → a ∷ called ∷ calling ∷ rest ≡ b ∷ called ∷ calling ∷ tail
front a b called calling rest tail h k = cc

-- what stands behind sizes, or at the front where there are none
record Before (sizes : Option Directions) (rest : List ℕ) : Type 0 where
  pub allowed : IfGiven sizes (AreWithin 4 12)
  pub first : sizes ≡ None → get_or rest 0 0 ≢ 66

abbrev only_sizes : Option Directions → Facilities
only_sizes sizes = record { packet_size = sizes; window_size = None }

behind_sizes : (sizes : Option Directions) (tail : List ℕ) (e : PacketError) → FieldError (field_of (only_sizes sizes) ++ tail) e
    → FieldError (facility 66 sizes ++ tail) e
behind_sizes None tail e f = f
behind_sizes (Some values) tail e f = f

behind_windows : (sizes : Option Directions) (windows : Directions) (tail : List ℕ) (e : PacketError)
    → FieldError (field_of (record { packet_size = sizes; window_size = Some windows }) ++ tail) e
    → FieldError (facility 66 sizes ++ 67 ∷ windows.called ∷ windows.calling ∷ tail) e
behind_windows None windows tail e f = f
behind_windows (Some values) windows tail e f = f

-- another code in place of window sizes
other_code : (sizes : Option Directions) (code : ℕ) (rest : List ℕ) (e : PacketError) → Before sizes (code ∷ rest) → nat_eq code 67 ≡ false → BadFacility ≡ e
    → FieldError (facility 66 sizes ++ code ∷ rest) e
other_code sizes code rest e before differs same = subst (FieldError (facility 66 sizes ++ code ∷ rest)) same
    (behind_sizes sizes (code ∷ rest) BadFacility (wrong_code (only_sizes sizes) code rest (record { sizes = before.allowed; windows = tt })
    (not_windows sizes code before.first (eqb-false _ _ differs))))

may_windows : (sizes : Option Directions) (code : ℕ) → nat_eq code 67 ≡ true → MayFollow (only_sizes sizes) code
may_windows sizes code same = subst (MayFollow (only_sizes sizes)) (sym (eqb-true _ _ same)) (windows_may sizes)

-- window sizes cut off
cut_windows : (sizes : Option Directions) (code : ℕ) (rest : List ℕ) (e : PacketError) → Before sizes (code ∷ rest) → nat_eq code 67 ≡ true → length rest < 2
    → BadParameter ≡ e
    → FieldError (facility 66 sizes ++ code ∷ rest) e
cut_windows sizes code rest e before at short same = subst (FieldError (facility 66 sizes ++ code ∷ rest)) same
    (behind_sizes sizes (code ∷ rest) BadParameter
    (cut_off (only_sizes sizes) code rest (record { sizes = before.allowed; windows = tt }) (may_windows sizes code at) short))

last_err : {A : Type 0} (value : A) (rest : List ℕ) (e : PacketError) → last value rest ≡ Err e → (code : ℕ) × (tail : List ℕ) × (rest ≡ code ∷ tail)
    × (BadFacility ≡ e)
last_err value [] e h = absurd (err_ok h)
last_err value (code ∷ tail) e h = (code, tail, refl, err_same h)

windows_fault : (sizes : Option Directions) (rest : List ℕ) (e : PacketError) → Before sizes rest → windows_of rest ≡ Err e
    → FieldError (facility 66 sizes ++ rest) e
windows_fault sizes [] e before h = absurd (err_ok h)
windows_fault sizes (code ∷ []) e before h = elim (chosen (nat_eq code 67) _ _ _ h) [
  | inl p ↦ cut_windows sizes code [] e before p.0 (omega arith) (err_same p.1)
  | inr p ↦ other_code sizes code [] e before p.0 (err_same p.1)
]
windows_fault sizes (code ∷ called ∷ []) e before h = elim (chosen (nat_eq code 67) _ _ _ h) [
  | inl p ↦ cut_windows sizes code (called ∷ []) e before p.0 (omega arith) (err_same p.1)
  | inr p ↦ other_code sizes code (called ∷ []) e before p.0 (err_same p.1)
]
windows_fault sizes (code ∷ called ∷ calling ∷ rest) e before h = elim (chosen (nat_eq code 67) _ _ _ h) [
  | inl p ↦
      let values : Directions = record { called = called; calling = calling } in
      elim (chosen (is_within 1 7 called && is_within 1 7 calling) _ _ _ p.1) [
        | inl q ↦
            let more = last_err (Some values) rest e q.1 in
            let found : FieldError (facility 66 sizes ++ 67 ∷ called ∷ calling ∷ more.0 ∷ more.1) BadFacility =
            behind_windows sizes values (more.0 ∷ more.1) BadFacility
            (wrong_code (record { packet_size = sizes; window_size = Some values }) more.0 more.1
            (record { sizes = before.allowed; windows = within 1 7 called calling q.0 }) (not_after_windows sizes values more.0)) in
            let P : List ℕ → Type 0 = λ tail. FieldError (facility 66 sizes ++ tail) e in
            subst P (front 67 code called calling (more.0 ∷ more.1) rest (sym (eqb-true _ _ p.0)) (sym more.2))
            (subst (FieldError (facility 66 sizes ++ 67 ∷ called ∷ calling ∷ more.0 ∷ more.1)) more.3 found)
        | inr q ↦ subst (FieldError (facility 66 sizes ++ code ∷ called ∷ calling ∷ rest)) (err_same q.1)
            (behind_sizes sizes (code ∷ called ∷ calling ∷ rest) BadParameter
            (out_of_range (only_sizes sizes) code values rest (record { sizes = before.allowed; windows = tt }) (may_windows sizes code p.0)
            (λ r. not_within 1 7 values q.0 (r.windows (eqb-true _ _ p.0)))))
      ]
  | inr p ↦ other_code sizes code (called ∷ calling ∷ rest) e before p.0 (err_same p.1)
]

with_sizes_err : (sizes : Option Directions) (r : Result (Option Directions) PacketError) (e : PacketError) → with_sizes sizes r ≡ Err e → r ≡ Err e
with_sizes_err sizes (Ok w) e h = absurd (err_ok h)
with_sizes_err sizes (Err x) e h = ap again (err_same h)
  where
    again : PacketError → Result (Option Directions) PacketError
    again y = Err y

abbrev pub nothing : Facilities
nothing = record { packet_size = None; window_size = None }

pub nothing_allowed : AreAllowed nothing
nothing_allowed = record { sizes = tt; windows = tt }

may_sizes : (code : ℕ) → nat_eq code 66 ≡ true → MayFollow nothing code
may_sizes code same = subst (MayFollow nothing) (sym (eqb-true _ _ same)) (record { rises = omega arith; known = inl refl })

-- no packet sizes at the front
no_sizes : (code : ℕ) (rest : List ℕ) (e : PacketError) → nat_eq code 66 ≡ false → with_sizes None (windows_of (code ∷ rest)) ≡ Err e
    → FieldError (code ∷ rest) e
no_sizes code rest e differs h =
    windows_fault None (code ∷ rest) e (record { allowed = tt; first = λ _. eqb-false _ _ differs }) (with_sizes_err None (windows_of (code ∷ rest)) e h)

cut_sizes : (code : ℕ) (rest : List ℕ) (e : PacketError) → nat_eq code 66 ≡ true → length rest < 2 → BadParameter ≡ e → FieldError (code ∷ rest) e
cut_sizes code rest e at short same = subst (FieldError (code ∷ rest)) same (cut_off nothing code rest nothing_allowed (may_sizes code at) short)

pub facilities_fault : (field : List ℕ) (e : PacketError) → facilities_of field ≡ Err e → FieldError field e
unfolding facilities_of
facilities_fault [] e h = absurd (err_ok h)
facilities_fault (code ∷ []) e h = elim (chosen (nat_eq code 66) _ _ _ h) [
  | inl p ↦ cut_sizes code [] e p.0 (omega arith) (err_same p.1)
  | inr p ↦ no_sizes code [] e p.0 p.1
]
facilities_fault (code ∷ called ∷ []) e h = elim (chosen (nat_eq code 66) _ _ _ h) [
  | inl p ↦ cut_sizes code (called ∷ []) e p.0 (omega arith) (err_same p.1)
  | inr p ↦ no_sizes code (called ∷ []) e p.0 p.1
]
facilities_fault (code ∷ called ∷ calling ∷ rest) e h = elim (chosen (nat_eq code 66) _ _ _ h) [
  | inl p ↦
      let values : Directions = record { called = called; calling = calling } in
      elim (chosen (is_within 4 12 called && is_within 4 12 calling) _ _ _ p.1) [
        | inl q ↦
            let found = windows_fault (Some values) rest e (record { allowed = within 4 12 called calling q.0; first = λ none. absurd (some_none none) })
            (with_sizes_err (Some values) (windows_of rest) e q.1) in
            let P : List ℕ → Type 0 = λ tail. FieldError tail e in
            subst P (front 66 code called calling rest rest (sym (eqb-true _ _ p.0)) refl) found
        | inr q ↦ subst (FieldError (code ∷ called ∷ calling ∷ rest)) (err_same q.1)
            (out_of_range nothing code values rest nothing_allowed (may_sizes code p.0) (λ r. not_within 4 12 values q.0 (r.sizes (eqb-true _ _ p.0))))
      ]
  | inr p ↦ no_sizes code (called ∷ calling ∷ rest) e p.0 p.1
]
