-- Whole octets: what is read is what the grammar says, and an error is the first that applies.
use Rattle.std.proofs.Common.{ℕ, suc, ◌+◌, ◌-◌, ◌/◌, ◌%◌, ◌<◌, ◌≤◌, ◌≡◌, ◌≢◌, ◌∙◌, Bool, true, false, List, [], ◌∷◌, ◌++◌, length, get_or, refl, ap, sym, subst}
use Rattle.std.proofs.Common.{inl, inr, arith, length-append, nat_eq, Ok, Err}
use Rattle.std.specs.Prelude.{if◌then◌else◌}
use Rattle.std.proofs.lemmas.Bool.{eqb-true, eqb-false}
use Rattle.std.proofs.Math.Seq.{take-append_seam}
use Rattle.x25_bits.specs.FrameCheck.{fcs_of}
use Rattle.x25_bits.specs.FrameCheck.Sealed.{seal_of, IsSealed}
use Rattle.x25_bits.specs.declared.role.Role.{Role}
use Rattle.x25_bits.specs.declared.role.Role.TheVariants.{Dte, Dce}
use Rattle.x25_frame.specs.declared.error.FrameError.{FrameError}
use Rattle.x25_frame.specs.declared.error.FrameError.TheVariants.{BadAddress, Undefined, NoInfoAllowed, TooLong}
use Rattle.x25_frame.specs.Frame.{PlainFrame}
use Rattle.x25_frame.specs.Spelling.{address_of, is_command, control_of, information_of, body_of, MayCarry, IsWithin, Spells}
use Rattle.x25_frame.specs.Error.{information_in, HasKind, IsValid, IsFirstError}
use Rattle.x25_frame.specs.Reading.{kind_of, addressed_frame}
use Rattle.x25_frame.proofs.KindLemmas.{Read, split, ok_err, err_same, as_kind, kind_of-control, HasControl, defined, as_ok, as_err, as_again, Refused}

-- ---- the parts of octets

information_in-spelled : (a c : ℕ) (octets : List ℕ) (x y : ℕ) → information_in (a ∷ c ∷ octets ++ (x ∷ y ∷ [])) ≡ octets
information_in-spelled a c octets x y =
    let size : length (octets ++ (x ∷ y ∷ [])) ≡ length octets + 2 = length-append octets (x ∷ y ∷ []) in
    let at : suc (suc (length (octets ++ (x ∷ y ∷ [])))) - 4 ≡ length octets = omega arith in
    rw (at, take-append_seam octets (x ∷ y ∷ [])) refl

abbrev head_and_information : List ℕ → List ℕ
head_and_information octets = get_or octets 0 0 ∷ get_or octets 1 0 ∷ information_in octets

sealed_parts : (octets : List ℕ) → 4 ≤ length octets → IsSealed octets → octets ≡ head_and_information octets ++ seal_of (head_and_information octets)
sealed_parts octets h (body, e) = go body e (omega (arith, ap length e, length-append body (seal_of body)))
  where
    go : (body : List ℕ) → octets ≡ body ++ seal_of body → 2 ≤ length body → octets ≡ head_and_information octets ++ seal_of (head_and_information octets)
    go [] e k = absurd (omega arith)
    go (x ∷ []) e k = absurd (omega arith)
    go (a ∷ c ∷ rest) e k =
        let whole = a ∷ c ∷ rest in
        let first : get_or octets 0 0 ≡ a = ap (λ (o : List ℕ). get_or o 0 0) e in
        let second : get_or octets 1 0 ≡ c = ap (λ (o : List ℕ). get_or o 1 0) e in
        let middle : information_in octets ≡ rest = ap information_in e ∙ information_in-spelled a c rest (fcs_of whole % 256) (fcs_of whole / 256) in
        rw (first, second, middle) e

-- ---- by the address

-- which kind of address it is
pub data Address (from : Role) (octets : List ℕ) (n1 : ℕ) : Type 0 where
  known : (command : Bool) → get_or octets 0 0 ≡ address_of from command
      → addressed_frame from n1 octets ≡ kind_of n1 command (get_or octets 1 0) (information_in octets) → Address from octets n1
  other : get_or octets 0 0 ≢ 1 → get_or octets 0 0 ≢ 3 → addressed_frame from n1 octets ≡ Err BadAddress → Address from octets n1

address_cases : (from : Role) (n1 : ℕ) (octets : List ℕ) → Address from octets n1
address_cases from n1 octets =
    let address = get_or octets 0 0 in
    let control = get_or octets 1 0 in
    let command = kind_of n1 true control (information_in octets) in
    let response = kind_of n1 false control (information_in octets) in
    let rest : Read = if nat_eq address (address_of from false) then response else Err BadAddress in
    elim (split (nat_eq address (address_of from true)) command rest) [
      | inl p ↦ known true (eqb-true _ _ p.0) p.1
      | inr p ↦ elim (split (nat_eq address (address_of from false)) response (Err BadAddress)) [
        | inl q ↦ known false (eqb-true _ _ q.0) (p.1 ∙ q.1)
        | inr q ↦ let no = neither from address (eqb-false _ _ p.0) (eqb-false _ _ q.0) in other no.0 no.1 (p.1 ∙ q.1)
      ]
    ]
  where
    neither : (from : Role) (n : ℕ) → n ≢ address_of from true → n ≢ address_of from false → (n ≢ 1) × (n ≢ 3)
    neither Dte n a b = (a, b)
    neither Dce n a b = (b, a)

same_kind : (from : Role) (a b : Bool) → address_of from a ≡ address_of from b → a ≡ b
same_kind Dte true true h = refl
same_kind Dte true false h = absurd (omega arith)
same_kind Dte false true h = absurd (omega arith)
same_kind Dte false false h = refl
same_kind Dce true true h = refl
same_kind Dce true false h = absurd (omega arith)
same_kind Dce false true h = absurd (omega arith)
same_kind Dce false false h = refl

is_a_or_b : (from : Role) (command : Bool) (n : ℕ) → n ≡ address_of from command → n ≢ 1 → n ≡ 3
is_a_or_b Dte true n e h = absurd (h e)
is_a_or_b Dte false n e h = e
is_a_or_b Dce true n e h = e
is_a_or_b Dce false n e h = absurd (h e)

abbrev pub AreOctets : List ℕ → Type 0
AreOctets octets = (i : ℕ) → get_or octets i 0 < 256

-- a kind that the octets have reads as that kind with their information
by_kind : (n1 : ℕ) (command : Bool) (control : ℕ) (octets : List ℕ) (v : PlainFrame) → HasControl command control v → kind_of n1 command control octets
    ≡ as_kind n1 v octets
by_kind n1 command control octets v k =
    ap (λ c. kind_of n1 c control octets) (sym k.command_is) ∙ ap (λ c. kind_of n1 (is_command v) c octets) (sym k.control_is)
    ∙ kind_of-control n1 v octets k.in_range

-- ---- what is read is spelled so

pub found_spells : (from : Role) (n1 : ℕ) (octets : List ℕ) (w : PlainFrame) → AreOctets octets → IsValid octets → addressed_frame from n1 octets ≡ Ok w
    → Spells from n1 w octets
found_spells from n1 octets w small valid e = elim (address_cases from n1 octets) [
  | known command address reads ↦ elim (defined n1 command (get_or octets 1 0) (information_in octets) (small 1)) [
    | inl none ↦ absurd (ok_err (sym none ∙ sym reads ∙ e))
    | inr found ↦
        let v = found.0 in
        let k = found.1 in
        let c = as_ok n1 v (information_in octets) w k.in_range (sym (by_kind n1 command (get_or octets 1 0) (information_in octets) v k) ∙ sym reads ∙ e) in
        let body : body_of from w ≡ head_and_information octets = rw (c.command_is, k.command_is, c.control_is, k.control_is, c.information, address) refl in
        record {
          in_range = c.in_range;
          carries = subst (MayCarry w) (sym c.information) c.carries;
          within = subst (IsWithin n1 w) (sym c.information) c.within;
          spelling = sealed_parts octets valid.long valid.sealed ∙ ap (λ (b : List ℕ). b ++ seal_of b) (sym body);
        }
  ]
  | other _ _ reads ↦ absurd (ok_err (sym reads ∙ e))
]

-- ---- what is spelled so is read

pub only_found : (from : Role) (n1 : ℕ) (octets : List ℕ) (v : PlainFrame) → Spells from n1 v octets → addressed_frame from n1 octets ≡ Ok v
only_found from n1 octets v s = ap (addressed_frame from n1) s.spelling ∙ again (fcs_of (body_of from v) % 256) (fcs_of (body_of from v) / 256)
  where
    by_address : (from : Role) (command : Bool) (x y : Read)
        → (if nat_eq (address_of from command) (address_of from true) then x else if nat_eq (address_of from command) (address_of from false) then y
        else Err BadAddress)
        ≡ (if command then x else y)
    by_address Dte true x y = refl
    by_address Dte false x y = refl
    by_address Dce true x y = refl
    by_address Dce false x y = refl

    chosen : (command : Bool) → is_command v ≡ command
        → (if command then kind_of n1 true (control_of v) (information_of v) else kind_of n1 false (control_of v) (information_of v)) ≡ Ok v
    chosen true same = by_kind n1 true _ _ v (record { in_range = s.in_range; command_is = same; control_is = refl }) ∙ as_again n1 v s.carries s.within
    chosen false same = by_kind n1 false _ _ v (record { in_range = s.in_range; command_is = same; control_is = refl }) ∙ as_again n1 v s.carries s.within

    again : (x y : ℕ) → addressed_frame from n1 (body_of from v ++ (x ∷ y ∷ [])) ≡ Ok v
    again x y = rw (information_in-spelled (address_of from (is_command v)) (control_of v) (information_of v) x y)
        (by_address from (is_command v) (kind_of n1 true (control_of v) (information_of v)) (kind_of n1 false (control_of v) (information_of v))
        ∙ chosen (is_command v) refl)

-- ---- an error is the first that applies

refused_is_first : (from : Role) (n1 : ℕ) (octets : List ℕ) (v : PlainFrame) (e : FrameError) → IsValid octets → HasKind from v octets
    → Refused n1 v (information_in octets) e → IsFirstError from n1 octets e
refused_is_first from n1 octets v e valid k (inl r) =
    subst (IsFirstError from n1 octets) r.0 (valid, (v, k, r.1), k.control)
refused_is_first from n1 octets v e valid k (inr r) =
    subst (IsFirstError from n1 octets) r.0 (valid, (v, k, r.1, r.2))

pub error_is_first : (from : Role) (n1 : ℕ) (octets : List ℕ) (e : FrameError) → AreOctets octets → IsValid octets → addressed_frame from n1 octets ≡ Err e
    → IsFirstError from n1 octets e
error_is_first from n1 octets e small valid h = elim (address_cases from n1 octets) [
  | known command address reads ↦
      let control = get_or octets 1 0 in
      let information = information_in octets in
      elim (defined n1 command control information (small 1)) [
        | inl none ↦ subst (IsFirstError from n1 octets) (err_same (sym none ∙ sym reads ∙ h))
            (valid, is_a_or_b from command (get_or octets 0 0) address, undefined command address none, refl)
        | inr found ↦
            let v = found.0 in
            let k = found.1 in
            refused_is_first from n1 octets v e valid
            (record { in_range = k.in_range; address = rw k.command_is address; control = sym k.control_is })
            (as_err n1 v information e (sym (by_kind n1 command control information v k) ∙ sym reads ∙ h))
      ]
  | other a b reads ↦ subst (IsFirstError from n1 octets) (err_same (sym reads ∙ h)) (valid, a, b)
]
  where
    undefined : (command : Bool) → get_or octets 0 0 ≡ address_of from command
        → kind_of n1 command (get_or octets 1 0) (information_in octets) ≡ Err (Undefined (get_or octets 1 0)) → (v : PlainFrame) → HasKind from v octets → ⊥
    undefined command address none v k =
        let same : is_command v ≡ command = same_kind from _ _ (sym k.address ∙ address) in
        let reads = by_kind n1 command (get_or octets 1 0) (information_in octets) v
        (record { in_range = k.in_range; command_is = same; control_is = sym k.control }) in
        elim (as_err n1 v (information_in octets) (Undefined (get_or octets 1 0)) (sym reads ∙ none)) [
          | inl r ↦ no_info r.0
          | inr r ↦ too_long r.0
        ]
      where
        no_info : {a b : ℕ} → NoInfoAllowed a ≡ Undefined b → ⊥
        no_info h = cc

        too_long : {b : ℕ} → TooLong ≡ Undefined b → ⊥
        too_long h = cc
