use Rattle.std.proofs.Common.{arith}
use Rattle.x25_bits.proofs.OctetLemmas.{octets_filled}
use Rattle.x25_bits.proofs.bits.whole_octets.Goals as goal

pub returns : goal.returns
returns c = octets_filled c.args.count c.args.octets.now (λ k. omega (arith, c.type_inv.octets k)) c.requires
