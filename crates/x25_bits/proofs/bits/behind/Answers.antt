use Rattle.std.proofs.Common.{arith}
use Rattle.x25_bits.proofs.OctetLemmas.{sum_behind, sum_fits}
use Rattle.x25_bits.proofs.bits.behind.Goals as goal

pub overflow_add-result : goal.overflow_add-result
overflow_add-result c = omega (arith, sum_fits c.args.size c.args.octet c.args.next c.requires (omega (arith, c.ranges.octet)) (omega (arith, c.ranges.next)))

pub returns : goal.returns
returns c = sum_behind c.args.size c.args.octet c.args.next c.requires (omega (arith, c.ranges.octet)) (omega (arith, c.ranges.next))
