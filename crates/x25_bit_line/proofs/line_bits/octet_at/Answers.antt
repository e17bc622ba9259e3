use Rattle.std.proofs.Common.{◌+◌, ◌*◌, ap, arith}
use Rattle.x25_bit_line.proofs.OctetLemmas.{no_octet, octet_more}
use Rattle.x25_bit_line.proofs.line_bits.octet_at.Goals as goal

pub loop-behind-init : goal.loop-behind-init
loop-behind-init c = (no_octet c.args.place c.args.bits.now c.requires.inside, omega arith)

pub loop-behind-preserved : goal.loop-behind-preserved
loop-behind-preserved c =
    octet_more c.args.place c.loop-behind.behind c.loop-behind.octet _ c.bit_at.result c.args.bits.now c.requires.inside (omega arith)
    c.loop-behind.invariant.0 c.loop-behind.invariant.1 c.bit_at.ensures (ap (λ n. 2 * c.loop-behind.octet + n) c.from.ensures)
