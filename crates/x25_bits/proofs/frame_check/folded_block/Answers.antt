use Rattle.std.proofs.Common.{arith}
use Rattle.x25_bits.proofs.BlockLemmas.{folded_is}
use Rattle.x25_bits.proofs.frame_check.folded_block.Goals as goal

pub returns : goal.returns
returns c =
    folded_is c.args.first c.args.second c.args.third c.args.fourth (omega (arith, c.ranges.first)) (omega (arith, c.ranges.second))
    (omega (arith, c.ranges.third)) (omega (arith, c.ranges.fourth))
