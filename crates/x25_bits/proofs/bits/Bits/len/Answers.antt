use Rattle.x25_bits.proofs.OctetLemmas.{count_is}
use Rattle.x25_bits.proofs.bits.Bits.len.Goals as goal

pub returns : goal.returns
returns c = count_is c.self.inside.count c.self.inside.octets.items c.args.self.now c.self.invariant c.self.view_is
