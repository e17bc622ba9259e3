use Rattle.std.proofs.Common.{◌∙◌, ◌++◌, ◌∷◌, ◌/◌, ◌%◌, [], arith, ap}
use Rattle.std.proofs.lemmas.List.{get_or_default}
use Rattle.x25_bits.specs.FrameCheck.{low_bits}
use Rattle.x25_bits.proofs.OctetLemmas.{place_written}
use Rattle.x25_bits.proofs.bits.set_bit.Goals as goal

pub returns-clause-bits : goal.returns-clause-bits
returns-clause-bits c =
    place_written c.args.place c.with_bit.result c.args.bit c.args.octets.now.items (omega arith)
    (c.with_bit.ensures ∙ ap (λ o. low_bits (c.args.place % 8) o ++ c.args.bit ∷ [])
    (c.index.ensures ∙ get_or_default c.args.octets.now.items (c.args.place / 8) c.index.result.now 0 (omega arith)))
