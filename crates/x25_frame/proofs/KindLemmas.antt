-- A control read as a kind of frame: what is read is spelled so, what is spelled so is read, and why nothing is.
use Rattle.std.proofs.Common.{ℕ, zero, suc, ◌+◌, ◌*◌, ◌/◌, ◌%◌, ◌<◌, ◌≡◌, ◌⊎◌, ◌∙◌, Bool, true, false, List, [], ◌∷◌, length, refl, sym, subst, inl, inr, arith}
use Rattle.std.proofs.Common.{nat_eq, Result, Ok, Err}
use Rattle.std.specs.Prelude.{cond, nat_le, if◌then◌else◌}
use Rattle.std.proofs.lemmas.Bool.{leb-true, le-leb, eqb-true, eq-eqb}
use Rattle.x25_frame.specs.declared.error.FrameError.{FrameError}
use Rattle.x25_frame.specs.declared.error.FrameError.TheVariants.{Undefined, NoInfoAllowed, TooLong}
use Rattle.x25_frame.specs.Frame.{PlainFrame, info, rr, rnr, rej, sabm, disc, ua, dm, frmr}
use Rattle.x25_bits.specs.Bits.{bit}
use Rattle.x25_frame.specs.Spelling.{is_command, control_of, information_of, IsInRange, MayCarry, IsWithin}
use Rattle.x25_frame.specs.Reading.{bare, unnumbered, kind_of}

abbrev pub Read : Type 0
Read = Result PlainFrame FrameError

-- which way a test went
pub split : {A : Type 0} (b : Bool) (x y : A) → ((b ≡ true) × (cond b x y ≡ x)) ⊎ ((b ≡ false) × (cond b x y ≡ y))
split true x y = inl (refl, refl)
split false x y = inr (refl, refl)

known : (b : Bool) → (b ≡ true) ⊎ (b ≡ false)
known true = inl refl
known false = inr refl

pub ok_err : {v : PlainFrame} {e : FrameError} → (let x : Read = Err e in let y : Read = Ok v in x ≡ y) → ⊥
ok_err h = cc

pub ok_same : {v w : PlainFrame} → (let x : Read = Ok v in let y : Read = Ok w in x ≡ y) → v ≡ w
ok_same h = cc

pub err_same : {d e : FrameError} → (let x : Read = Err d in let y : Read = Err e in x ≡ y) → d ≡ e
err_same h = cc

bit_lt : (b : Bool) → bit b < 2
bit_lt true = omega arith
bit_lt false = omega arith

bit_back : (b : Bool) → nat_eq (bit b) 1 ≡ b
bit_back true = refl
bit_back false = refl

bit_eq : (n : ℕ) → n < 2 → bit (nat_eq n 1) ≡ n
bit_eq zero h = refl
bit_eq (suc zero) h = refl
bit_eq (suc (suc n)) h = absurd (omega arith)

-- ---- the numbers in a control

number_info : (ns nr b : ℕ) → ns < 8 → nr < 8 → b < 2 → ((2 * ns + 16 * b + 32 * nr) / 32 ≡ nr) × ((2 * ns + 16 * b + 32 * nr) / 16 % 2 ≡ b)
    × ((2 * ns + 16 * b + 32 * nr) % 2 ≡ 0) × ((2 * ns + 16 * b + 32 * nr) / 2 % 8 ≡ ns)
number_info ns nr b h k l = (omega arith, omega arith, omega arith, omega arith)

number_supervisory : (low nr b : ℕ) → low < 16 → low % 2 ≡ 1 → nr < 8 → b < 2 → ((low + 16 * b + 32 * nr) / 32 ≡ nr) × ((low + 16 * b + 32 * nr) / 16 % 2 ≡ b)
    × ((low + 16 * b + 32 * nr) % 2 ≡ 1) × ((low + 16 * b + 32 * nr) % 16 ≡ low)
number_supervisory low nr b h odd k l = (omega arith, omega arith, omega arith, omega arith)

-- the control of a numbered frame from its parts
control_again : (control low : ℕ) → control < 256 → control % 16 ≡ low → low + 16 * bit (nat_eq (control / 16 % 2) 1) + 32 * (control / 32) ≡ control
control_again control low h e = let b = bit_eq (control / 16 % 2) (omega arith) in rw b (omega arith)

-- that of an unnumbered one
based_again : (control base : ℕ) → control < 256 → control % 16 + 32 * (control / 32) ≡ base → base + 16 * bit (nat_eq (control / 16 % 2) 1) ≡ control
based_again control base h e = let b = bit_eq (control / 16 % 2) (omega arith) in rw b (omega arith)

-- ---- the kind of a frame, with any information

abbrev pub as_kind : ℕ → PlainFrame → List ℕ → Read
as_kind n1 (info ns nr p _) octets = if nat_le (length octets) n1 then Ok (info ns nr p octets) else Err TooLong
as_kind n1 (frmr f _) octets = if nat_eq (length octets) 3 then Ok (frmr f octets) else Err (NoInfoAllowed (135 + 16 * bit f))
as_kind n1 v octets = bare (control_of v) octets v

pub kind_of-control : (n1 : ℕ) (v : PlainFrame) (octets : List ℕ) → IsInRange v → kind_of n1 (is_command v) (control_of v) octets ≡ as_kind n1 v octets
kind_of-control n1 (info ns nr p _) octets r =
    let n = number_info ns nr (bit p) r.0 r.1 (bit_lt p) in rw (n.0, n.1, n.2, n.3, bit_back p) refl
kind_of-control n1 (rr command nr pf) octets r = let n = number_supervisory 1 nr (bit pf) (omega arith) refl r (bit_lt pf) in
    rw (n.0, n.1, n.2, n.3, bit_back pf) refl
kind_of-control n1 (rnr command nr pf) octets r = let n = number_supervisory 5 nr (bit pf) (omega arith) refl r (bit_lt pf) in
    rw (n.0, n.1, n.2, n.3, bit_back pf) refl
kind_of-control n1 (rej command nr pf) octets r = let n = number_supervisory 9 nr (bit pf) (omega arith) refl r (bit_lt pf) in
    rw (n.0, n.1, n.2, n.3, bit_back pf) refl
kind_of-control n1 (sabm true) octets r = refl
kind_of-control n1 (sabm false) octets r = refl
kind_of-control n1 (disc true) octets r = refl
kind_of-control n1 (disc false) octets r = refl
kind_of-control n1 (ua true) octets r = refl
kind_of-control n1 (ua false) octets r = refl
kind_of-control n1 (dm true) octets r = refl
kind_of-control n1 (dm false) octets r = refl
kind_of-control n1 (frmr true _) octets r = refl
kind_of-control n1 (frmr false _) octets r = refl

-- ---- each control is undefined, or that of a frame

pub record HasControl (command : Bool) (control : ℕ) (v : PlainFrame) : Type 0 where
  pub in_range : IsInRange v
  pub command_is : is_command v ≡ command
  pub control_is : control_of v ≡ control

abbrev Defined : ℕ → Bool → ℕ → List ℕ → Type 0
Defined n1 command control octets = (kind_of n1 command control octets ≡ Err (Undefined control)) ⊎ ((v : PlainFrame) × HasControl command control v)

unnumbered_defined : (command : Bool) (control : ℕ) (octets : List ℕ) → control < 256
    → (unnumbered command (control % 16 + 32 * (control / 32)) control (nat_eq (control / 16 % 2) 1) octets ≡ Err (Undefined control))
    ⊎ ((v : PlainFrame) × HasControl command control v)
unnumbered_defined true control octets small =
    let pf = nat_eq (control / 16 % 2) 1 in
    let base = control % 16 + 32 * (control / 32) in
    elim (split (nat_eq base 47) (bare control octets (sabm pf)) (if nat_eq base 67 then bare control octets (disc pf) else Err (Undefined control))) [
      | inl p ↦ inr (sabm pf, record { in_range = tt; command_is = refl; control_is = based_again control 47 small (eqb-true _ _ p.0) })
      | inr p ↦ elim (split (nat_eq base 67) (bare control octets (disc pf)) (Err (Undefined control))) [
        | inl q ↦ inr (disc pf, record { in_range = tt; command_is = refl; control_is = based_again control 67 small (eqb-true _ _ q.0) })
        | inr q ↦ inl (p.1 ∙ q.1)
      ]
    ]
unnumbered_defined false control octets small =
    let pf = nat_eq (control / 16 % 2) 1 in
    let base = control % 16 + 32 * (control / 32) in
    let why : Read = if nat_eq (length octets) 3 then Ok (frmr pf octets) else Err (NoInfoAllowed control) in
    let last : Read = if nat_eq base 135 then why else Err (Undefined control) in
    elim (split (nat_eq base 99) (bare control octets (ua pf)) (if nat_eq base 15 then bare control octets (dm pf) else last)) [
      | inl p ↦ inr (ua pf, record { in_range = tt; command_is = refl; control_is = based_again control 99 small (eqb-true _ _ p.0) })
      | inr p ↦ elim (split (nat_eq base 15) (bare control octets (dm pf)) last) [
        | inl q ↦ inr (dm pf, record { in_range = tt; command_is = refl; control_is = based_again control 15 small (eqb-true _ _ q.0) })
        | inr q ↦ elim (split (nat_eq base 135) why (Err (Undefined control))) [
          | inl r ↦ inr (frmr pf [], record { in_range = tt; command_is = refl; control_is = based_again control 135 small (eqb-true _ _ r.0) })
          | inr r ↦ inl (p.1 ∙ q.1 ∙ r.1)
        ]
      ]
    ]

pub defined : (n1 : ℕ) (command : Bool) (control : ℕ) (octets : List ℕ) → control < 256 → Defined n1 command control octets
defined n1 command control octets small = elim (nat_split (control % 2) 0) [
  | inl even ↦ numbered command even
  | inr odd ↦ elim (nat_split (control % 16) 1) [
    | inl p ↦ inr (rr command nr pf, record { in_range = omega arith; command_is = refl; control_is = control_again control 1 small p })
    | inr p ↦ elim (nat_split (control % 16) 5) [
      | inl q ↦ inr (rnr command nr pf, record { in_range = omega arith; command_is = refl; control_is = control_again control 5 small q })
      | inr q ↦ elim (nat_split (control % 16) 9) [
        | inl r ↦ inr (rej command nr pf, record { in_range = omega arith; command_is = refl; control_is = control_again control 9 small r })
        | inr r ↦ elim (unnumbered_defined command control octets small) [
          | inl e ↦ inl (rw (odd, p, q, r) e)
          | inr v ↦ inr v
        ]
      ]
    ]
  ]
]
  where
    nr : ℕ
    nr = control / 32

    pf : Bool
    pf = nat_eq (control / 16 % 2) 1

    nat_split : (a b : ℕ) → (a ≡ b) ⊎ (nat_eq a b ≡ false)
    nat_split a b = elim (known (nat_eq a b)) [ inl p ↦ inl (eqb-true _ _ p) | inr p ↦ inr p ]

    numbered : (command : Bool) → control % 2 ≡ 0 → Defined n1 command control octets
    numbered true even =
        let b = bit_eq (control / 16 % 2) (omega arith) in
        inr (
          info (control / 2 % 8) (control / 32) (nat_eq (control / 16 % 2) 1) [],
          record { in_range = (omega arith, omega arith); command_is = refl; control_is = rw b (omega arith) },
        )
    numbered false even = inl (rw (eq-eqb _ _ even) refl)

-- ---- what a kind with information reads as

pub record Carried (n1 : ℕ) (v : PlainFrame) (octets : List ℕ) (w : PlainFrame) : Type 0 where
  pub in_range : IsInRange w
  pub command_is : is_command w ≡ is_command v
  pub control_is : control_of w ≡ control_of v
  pub information : information_of w ≡ octets
  pub carries : MayCarry w octets
  pub within : IsWithin n1 w octets

bare_ok : (n1 control : ℕ) (v : PlainFrame) (octets : List ℕ) (w : PlainFrame) → (octets ≡ [] → Carried n1 v octets v) → bare control octets v ≡ Ok w
    → Carried n1 v octets w
bare_ok n1 control v [] w k e = subst (Carried n1 v []) (ok_same e) (k refl)
bare_ok n1 control v (o ∷ octets) w k e = absurd (ok_err e)

pub as_ok : (n1 : ℕ) (v : PlainFrame) (octets : List ℕ) (w : PlainFrame) → IsInRange v → as_kind n1 v octets ≡ Ok w → Carried n1 v octets w
as_ok n1 (info ns nr p old) octets w r e = elim (split (nat_le (length octets) n1) (Ok (info ns nr p octets)) (Err TooLong)) [
  | inl q ↦ subst (Carried n1 (info ns nr p old) octets) (ok_same (sym q.1 ∙ e))
      (record { in_range = r; command_is = refl; control_is = refl; information = refl; carries = tt; within = leb-true _ _ q.0 })
  | inr q ↦ absurd (ok_err (sym q.1 ∙ e))
]
as_ok n1 (frmr f old) octets w r e = elim (split (nat_eq (length octets) 3) (Ok (frmr f octets)) (Err (NoInfoAllowed (135 + 16 * bit f)))) [
  | inl q ↦ subst (Carried n1 (frmr f old) octets) (ok_same (sym q.1 ∙ e))
      (record { in_range = tt; command_is = refl; control_is = refl; information = refl; carries = eqb-true _ _ q.0; within = tt })
  | inr q ↦ absurd (ok_err (sym q.1 ∙ e))
]
as_ok n1 v octets w r e = bare_ok n1 _ _ octets w
    (λ none. record { in_range = r; command_is = refl; control_is = refl; information = sym none; carries = none; within = tt }) e

-- why a kind with information is no frame
abbrev pub Refused : ℕ → PlainFrame → List ℕ → FrameError → Type 0
Refused n1 v octets e = ((NoInfoAllowed (control_of v) ≡ e) × ¬ MayCarry v octets) ⊎ ((TooLong ≡ e) × MayCarry v octets × ¬ IsWithin n1 v octets)

bare_err : (n1 : ℕ) (v : PlainFrame) (octets : List ℕ) (e : FrameError) → (MayCarry v octets → octets ≡ []) → bare (control_of v) octets v ≡ Err e
    → Refused n1 v octets e
bare_err n1 v [] e only h = absurd (ok_err (sym h))
bare_err n1 v (o ∷ octets) e only h = inl (err_same h, λ m. some (only m))
  where
    some : o ∷ octets ≡ [] → ⊥
    some h = cc

pub as_err : (n1 : ℕ) (v : PlainFrame) (octets : List ℕ) (e : FrameError) → as_kind n1 v octets ≡ Err e → Refused n1 v octets e
as_err n1 (info ns nr p old) octets e h = elim (split (nat_le (length octets) n1) (Ok (info ns nr p octets)) (Err TooLong)) [
  | inl q ↦ absurd (ok_err (sym h ∙ q.1))
  | inr q ↦ inr (err_same (sym q.1 ∙ h), tt, λ few. true_false (sym (le-leb _ _ few) ∙ q.0))
]
  where
    true_false : true ≡ false → ⊥
    true_false h = cc
as_err n1 (frmr f old) octets e h = elim (split (nat_eq (length octets) 3) (Ok (frmr f octets)) (Err (NoInfoAllowed (135 + 16 * bit f)))) [
  | inl q ↦ absurd (ok_err (sym h ∙ q.1))
  | inr q ↦ inl (err_same (sym q.1 ∙ h), λ three. true_false (sym (eq-eqb _ _ three) ∙ q.0))
]
  where
    true_false : true ≡ false → ⊥
    true_false h = cc
as_err n1 v octets e h = bare_err n1 v octets e (λ m. m) h

-- a frame's own information is read
pub as_again : (n1 : ℕ) (v : PlainFrame) → MayCarry v (information_of v) → IsWithin n1 v (information_of v) → as_kind n1 v (information_of v) ≡ Ok v
as_again n1 (info ns nr p octets) carries within = rw (le-leb _ _ within) refl
as_again n1 (frmr f why) carries within = rw (eq-eqb _ _ carries) refl
as_again n1 v carries within = refl
