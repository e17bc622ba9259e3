use Rattle.std.proofs.Common.{arith}
use Rattle.x25_bits.proofs.FrameCheckTable.{eight_leave}
use Rattle.x25_bits.proofs.frame_check.reduced.Goals as goal

pub returns : goal.returns
returns c =
    eight_leave c.args.held _ _ _ _ _ _ _ _ (omega (arith, c.ranges.held)) c.left-one.ensures c.left.ensures c.left-2.ensures c.left-3.ensures c.left-4.ensures
    c.left-5.ensures c.left-6.ensures c.left-7.ensures
