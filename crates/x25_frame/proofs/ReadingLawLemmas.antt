-- Octets are read as the frame that they spell, and as their first error where they spell none, from the definitions alone.
use Rattle.std.proofs.Common.{ℕ, ◌+◌, ◌-◌, ◌*◌, ◌/◌, ◌%◌, ◌<◌, ◌≡◌, ◌∙◌, ◌⊎◌, inl, inr, Bool, true, false, not, List, [], ◌∷◌, ◌++◌, length, take, drop, get_or}
use Rattle.std.proofs.Common.{refl, ap, sym, subst, arith, length-append, Result, Ok, Err}
use Rattle.std.specs.Prelude.{if◌then◌else◌, nat_le, nat_lt, ◌==◌, ◌&&◌, ◌↔◌, slice_index, All}
use Rattle.std.proofs.lemmas.Bool.{le-leb, eq-eqb, le-ltb, ltb-true, ltb-false, both_ways, cases_lt}
use Rattle.std.proofs.Math.ListN.{get_or-eq_default}
use Rattle.std.proofs.Math.Seq.{take-append_seam, drop-append_seam}
use Rattle.x25_bits.specs.FrameCheck.{fcs_of}
use Rattle.x25_bits.specs.FrameCheck.Sealed.{seal_of, is_sealed, IsSealed}
use Rattle.x25_bits.specs.declared.role.Role.{Role}
use Rattle.x25_frame.specs.declared.error.FrameError.{FrameError}
use Rattle.x25_frame.specs.declared.error.FrameError.TheVariants.{Short, BadFcs}
use Rattle.x25_frame.specs.Frame.{PlainFrame}
use Rattle.x25_frame.specs.Spelling.{information_of, body_of, spelling_of, IsInRange, MayCarry, IsWithin, Spells}
use Rattle.x25_frame.specs.Reading.{addressed_frame, frame_of}
use Rattle.x25_frame.specs.laws.ReadingLaw.{ReadsSpelled}
use Rattle.x25_frame.specs.Error.{IsFirstError}
use Rattle.x25_frame.proofs.KindLemmas.{ok_err, err_same}
use Rattle.x25_frame.proofs.FrameLemmas.{only_found, found_spells, error_is_first}

abbrev Read : Type 0
Read = Result PlainFrame FrameError

-- ---- the frame check sequence

sealed_again : (body : List ℕ) → is_sealed (body ++ seal_of body) ≡ true
unfolding is_sealed
sealed_again body = go (fcs_of body % 256) (fcs_of body / 256) (omega arith)
  where
    go : (x y : ℕ) → x + 256 * y ≡ fcs_of body
        → (let o : List ℕ = body ++ (x ∷ y ∷ []) in let at = length o - 2 in let last = drop at o in nat_le 2 (length o) && slice_index last 0
        + 256 * slice_index last 1 == fcs_of (take at o)) ≡ true
    go x y e =
        let size : length (body ++ (x ∷ y ∷ [])) ≡ length body + 2 = length-append body (x ∷ y ∷ []) in
        let at : length (body ++ (x ∷ y ∷ [])) - 2 ≡ length body = omega arith in
        rw (at, take-append_seam body (x ∷ y ∷ []), drop-append_seam body (x ∷ y ∷ []), le-leb 2 (length (body ++ (x ∷ y ∷ []))) (omega arith), eq-eqb _ _ e)
        refl

-- ---- the law

reads_by : (b s : Bool) (r : Read) → b ≡ false → s ≡ true → (let z : Read = if b then Err Short else if not s then Err BadFcs else r in z) ≡ r
reads_by false true r e f = refl
reads_by true s r e f = absurd (never e)
  where
    never : true ≡ false → ⊥
    never e = cc
reads_by false false r e f = absurd (never f)
  where
    never : false ≡ true → ⊥
    never e = cc

spelled : (from : Role) (n1 : ℕ) (v : PlainFrame) → IsInRange v → MayCarry v (information_of v) → IsWithin n1 v (information_of v)
    → frame_of from n1 (spelling_of from v) ≡ Ok v
unfolding frame_of
spelled from n1 v r carries within =
    let body = body_of from v in
    let size : length (spelling_of from v) ≡ length body + 2 = length-append body (seal_of body) in
    reads_by (nat_lt (length (spelling_of from v)) 4) (is_sealed (spelling_of from v)) (addressed_frame from n1 (spelling_of from v))
    (le-ltb _ _ (omega arith)) (sealed_again body)
    ∙ only_found from n1 (spelling_of from v) v (record { in_range = r; carries = carries; within = within; spelling = refl })

pub reads_spelled : ReadsSpelled
reads_spelled from n1 v octets s = ap (frame_of from n1) s.spelling ∙ spelled from n1 v s.in_range s.carries s.within

-- ---- and back

-- what the test of the frame check sequence says
abbrev IsTested : Type 0
IsTested = (octets : List ℕ) → All (λ octet. octet < 256) octets → (is_sealed octets ≡ true) ↔ IsSealed octets

each_small : (octets : List ℕ) → All (λ octet. octet < 256) octets → (k : ℕ) → get_or octets k 0 < 256
each_small octets small k = elim (cases_lt k (length octets)) [
  | inl low ↦ small k 0 low
  | inr high ↦ rw (get_or-eq_default octets 0 high) (omega arith)
]

-- a result that is chosen by two tests
read_cases : (short sealed : Bool) (r z : Read) → (if short then Err Short else if not sealed then Err BadFcs else r) ≡ z
    → ((short ≡ true) × (z ≡ Err Short)) ⊎ (((short ≡ false) × (sealed ≡ false) × (z ≡ Err BadFcs)) ⊎ ((short ≡ false) × (sealed ≡ true) × (r ≡ z)))
read_cases true sealed r z h = inl (refl, sym h)
read_cases false false r z h = inr (inl (refl, refl, sym h))
read_cases false true r z h = inr (inr (refl, refl, h))

pub read_is_spelled : IsTested → (from : Role) (n1 : ℕ) (v : PlainFrame) (octets : List ℕ) → All (λ octet. octet < 256) octets
    → frame_of from n1 octets ≡ Ok v → Spells from n1 v octets
unfolding frame_of
read_is_spelled tested from n1 v octets small h =
    elim (read_cases (nat_lt (length octets) 4) (is_sealed octets) (addressed_frame from n1 octets) (Ok v) h) [
      | inl p ↦ absurd (ok_err (sym p.1))
      | inr rest ↦ elim rest [
        | inl p ↦ absurd (ok_err (sym p.2))
        | inr p ↦ found_spells from n1 octets v (each_small octets small)
            (record { long = ltb-false _ _ p.0; sealed = (tested octets small).0 p.1 }) p.2
      ]
    ]

pub error_is_the_first : IsTested → (from : Role) (n1 : ℕ) (octets : List ℕ) (e : FrameError) → All (λ octet. octet < 256) octets
    → frame_of from n1 octets ≡ Err e → IsFirstError from n1 octets e
unfolding frame_of
error_is_the_first tested from n1 octets e small h =
    elim (read_cases (nat_lt (length octets) 4) (is_sealed octets) (addressed_frame from n1 octets) (Err e) h) [
      | inl p ↦ subst (IsFirstError from n1 octets) (sym (err_same p.1)) (ltb-true _ _ p.0)
      | inr rest ↦ elim rest [
        | inl p ↦ subst (IsFirstError from n1 octets) (sym (err_same p.2)) (ltb-false _ _ p.0, λ sealed. both_ways _ p.1 ((tested octets small).1 sealed))
        | inr p ↦ error_is_first from n1 octets e (each_small octets small)
            (record { long = ltb-false _ _ p.0; sealed = (tested octets small).0 p.1 }) p.2
      ]
    ]
