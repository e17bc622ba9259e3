use Rattle.std.proofs.Common.{◌∙◌, ap, arith, length, refl}
use Rattle.std.proofs.lemmas.List.{take_all}
use Rattle.x25_bits.specs.FrameCheck.{bits_of}
use Rattle.x25_bits.specs.code.Register.{fed}
use Rattle.x25_bits.proofs.FoldLemmas.{fed_halves, fed_parts, ones}
use Rattle.x25_bits.proofs.frame_check.register.Goals as goal

pub returns-then-octets-lt8 : goal.returns-then-octets-lt8
returns-then-octets-lt8 c =
    let octets = c.args.octets.now in
    c.reduced.ensures ∙ c.begun.ensures ∙ ap (λ o. fed ones (bits_of o)) (take_all (length octets) octets (omega arith))

pub returns-then-rest-lt64 : goal.returns-then-rest-lt64
returns-then-rest-lt64 c =
    c.reduced-then-rest-lt64.ensures ∙ c.through_words.ensures
    ∙ fed_parts c.begun-held.result _ _ _ c.args.octets.now refl c.split_at.ensures.back c.begun-held.ensures

pub returns : goal.returns
returns c =
    c.reduced-2.ensures ∙ c.through_blocks.ensures ∙ ap (λ r. fed r (bits_of c.split_at-2.result.1.now)) c.through_words-start.ensures
    ∙ fed_halves _ _ _ _ c.split_at.result.1.now c.split_at-2.ensures.front c.split_at-2.ensures.back
    ∙ fed_parts c.begun-held.result _ _ _ c.args.octets.now refl c.split_at.ensures.back c.begun-held.ensures
