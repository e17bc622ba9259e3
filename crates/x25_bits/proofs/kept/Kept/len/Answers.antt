use Rattle.x25_bits.proofs.KeepingLemmas.{count_of}
use Rattle.x25_bits.proofs.kept.Kept.len.Goals as goal

pub returns : goal.returns
returns c = count_of c.self.inside.count c.self.inside.octets.items c.args.self.now c.self.invariant.0 c.self.invariant.1 c.self.view_is
