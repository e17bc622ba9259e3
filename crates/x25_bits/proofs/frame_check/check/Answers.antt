use Rattle.std.proofs.Common.{◌≡◌, ◌∙◌, ◌-◌, ◌+◌, length, ap, sym, arith, eq-eqb, le-leb, take, drop}
use Rattle.std.proofs.lemmas.Bool.{eqb-true, lt-leb}
use Rattle.std.proofs.lemmas.List.{get_or-drop}
use Rattle.x25_bits.specs.FrameCheck.Sealed.{is_sealed}
use Rattle.std.specs.Prelude.{nat_le, slice_index, ℕ, ◌*◌, true, false, refl}
use Rattle.byteorder.specs.Endian.{little_number}
use Rattle.x25_bits.specs.FrameCheck.{fcs_of}
use Rattle.x25_bits.proofs.SealLemmas.{sealed_when, number_when}
use Rattle.x25_bits.proofs.frame_check.check.Goals as goal

pub returns-clause-sealed : goal.returns-clause-sealed
returns-clause-sealed c =
    let at = length c.args.octets.now - 2 in
    let number : c.read_u16.result ≡ little_number 2 (drop at c.args.octets.now) =
    c.read_u16.ensures ∙ ap (little_number 2) c.split_at.ensures.back in
    let sequence : c.fcs.result ≡ fcs_of (take at c.args.octets.now) = c.fcs.ensures ∙ ap fcs_of c.split_at.ensures.front in (
      λ h. sealed_when c.args.octets.now c.if-octets-lt2.false (rw get_or-drop (omega (arith, c.type_inv.octets (at + 0))))
          (sym number ∙ eqb-true _ _ h ∙ sequence),
      λ sealed. eq-eqb _ _ (number ∙ (number_when c.args.octets.now sealed).1 ∙ sym sequence),
    )

pub returns-clause-value : goal.returns-clause-value
unfolding is_sealed
returns-clause-value c =
    let at = length c.args.octets.now - 2 in
    let last = drop at c.args.octets.now in
    let long : nat_le 2 (length c.args.octets.now) ≡ true = le-leb _ _ c.if-octets-lt2.false in
    let number : c.read_u16.result ≡ slice_index last 0 + 256 * slice_index last 1 =
    c.read_u16.ensures ∙ ap (little_number 2) c.split_at.ensures.back ∙ plain _ _ in
    let sequence : c.fcs.result ≡ fcs_of (take at c.args.octets.now) = c.fcs.ensures ∙ ap fcs_of c.split_at.ensures.front in
    rw (long, ← number, ← sequence) refl
  where
    plain : (x y : ℕ) → x + 256 * (y + 256 * 0) ≡ x + 256 * y
    plain x y = omega arith

pub returns-then-octets-lt2-clause-value : goal.returns-then-octets-lt2-clause-value
unfolding is_sealed
returns-then-octets-lt2-clause-value c =
    let short : nat_le 2 (length c.args.octets.now) ≡ false = lt-leb _ _ c.if-octets-lt2.true in rw short refl
