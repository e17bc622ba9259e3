use Rattle.std.proofs.Common.{refl}
use Rattle.x25_bits.proofs.OctetLemmas.{bit_set, bit_clear}
use Rattle.x25_bits.proofs.bits.with_bit.Goals as goal

pub returns-then-bit : goal.returns-then-bit
returns-then-bit c = bit_set c.args.size c.args.octet _ _ c.args.bit c.requires c.if-bit.true refl refl

pub returns-else-bit : goal.returns-else-bit
returns-else-bit c = bit_clear c.args.size c.args.octet _ _ c.args.bit c.requires c.if-bit.false refl refl
