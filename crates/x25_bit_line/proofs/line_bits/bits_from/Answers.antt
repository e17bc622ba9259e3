use Rattle.std.proofs.Common.{arith}
use Rattle.x25_bit_line.proofs.OctetLemmas.{bit_more}
use Rattle.x25_bit_line.proofs.line_bits.bits_from.Goals as goal

pub loop-at-preserved : goal.loop-at-preserved
loop-at-preserved c =
    bit_more c.args.place c.loop-at.at c.bit_at.result c.args.bits.now c.loop-at.rest _ (omega arith) (omega arith) c.loop-at.invariant c.bit_at.ensures
    c.in_ok-push.ensures.ok
