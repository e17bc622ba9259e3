use Rattle.std.proofs.Common.{arith}
use Rattle.x25_bits.proofs.FoldLemmas.{folded_is}
use Rattle.x25_bits.proofs.frame_check.folded.Goals as goal

pub returns : goal.returns
returns c = folded_is c.args.held (omega (arith, c.ranges.held))
