use Rattle.std.proofs.Common.{◌≡◌, ◌∙◌, ap, sym}
use Rattle.x25_bits.specs.code.Plain.{plains}
use Rattle.x25_bits.specs.Found.{found_of}
use Rattle.x25_bits.specs.HarmlessBits.{between_flags}
use Rattle.x25_bits.proofs.HarmlessLemmas.{tested_harmless, harmless_tested}
use Rattle.x25_bits.proofs.harmless_bits.harmless.Goals as goal

pub returns : goal.returns
returns c =
    let found = c.as_slice.result.now in
    let same : plains found ≡ found_of (between_flags c.args.bits.now) = ap plains c.as_slice.ensures.value ∙ c.in_ok-found.ensures in (
      λ h. tested_harmless c.args.bits.now found same (sym c.none_passes.ensures ∙ h),
      λ h. c.none_passes.ensures ∙ harmless_tested c.args.bits.now found same h,
    )
