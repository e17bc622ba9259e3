use Rattle.std.proofs.Common.{ℕ, ◌+◌, ◌*◌, ◌-◌, ◌≡◌, ◌≤◌, ◌<◌, ◌∙◌, true, List, length, take, drop, get_or, arith, eq-eqb, le-leb, refl, sym}
use Rattle.std.specs.Prelude.{◌==◌, nat_le, slice_index, All}
use Rattle.std.proofs.lemmas.Bool.{eqb-true, leb-true, and_parts}
use Rattle.std.proofs.lemmas.List.{get_or-drop}
use Rattle.x25_bits.specs.FrameCheck.{fcs_of}
use Rattle.x25_bits.specs.FrameCheck.Sealed.{IsSealed, is_sealed}
use Rattle.x25_bits.proofs.SealLemmas.{sealed_when, number_when}
use Rattle.x25_bits.proofs.laws.sealed_is_tested.Goals as goal

-- the number of two octets
number_is : (x y : ℕ) → x + 256 * (y + 256 * 0) ≡ x + 256 * y
number_is x y = omega arith

tested_sealed : (octets : List ℕ) → All (λ octet. octet < 256) octets → is_sealed octets ≡ true → IsSealed octets
unfolding is_sealed
tested_sealed octets small h =
    let at = length octets - 2 in
    let last = drop at octets in
    let parts = and_parts (nat_le 2 (length octets)) (slice_index last 0 + 256 * slice_index last 1 == fcs_of (take at octets)) h in
    let long : 2 ≤ length octets = leb-true 2 (length octets) parts.0 in
    sealed_when octets long (rw get_or-drop (small (at + 0) 0 (omega arith))) (number_is (get_or last 0 0) (get_or last 1 0) ∙ eqb-true _ _ parts.1)

sealed_tested : (octets : List ℕ) → IsSealed octets → is_sealed octets ≡ true
unfolding is_sealed
sealed_tested octets sealed =
    let at = length octets - 2 in
    let last = drop at octets in
    let number = number_when octets sealed in
    rw (
      le-leb 2 (length octets) number.0,
      eq-eqb (slice_index last 0 + 256 * slice_index last 1) (fcs_of (take at octets)) (sym (number_is (get_or last 0 0) (get_or last 1 0)) ∙ number.1),
    ) refl

pub returns : goal.returns
returns c = λ octets small. (tested_sealed octets small, sealed_tested octets)
