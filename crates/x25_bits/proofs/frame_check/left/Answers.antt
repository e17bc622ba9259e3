use Rattle.std.proofs.Common.{arith}
use Rattle.x25_bits.proofs.FrameCheckTable.{lefts, leaves}
use Rattle.x25_bits.proofs.frame_check.left.Goals as goal

pub returns : goal.returns
unfolding lefts
returns c = leaves c.args.place c.args.octet c.requires (omega arith)
