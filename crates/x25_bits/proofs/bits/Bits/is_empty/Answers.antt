use Rattle.x25_bits.proofs.OctetLemmas.{count_is, none_seen, zero_seen}
use Rattle.x25_bits.proofs.bits.Bits.is_empty.Goals as goal

pub returns : goal.returns
returns c =
    let size = count_is c.self.inside.count c.self.inside.octets.items c.args.self.now c.self.invariant c.self.view_is in
    (none_seen c.self.inside.count c.args.self.now size, zero_seen c.self.inside.count c.args.self.now size)
