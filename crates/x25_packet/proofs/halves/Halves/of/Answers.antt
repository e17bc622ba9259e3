use Rattle.x25_packet.proofs.HalfLemmas.{as_far}
use Rattle.x25_packet.proofs.halves.Halves.of.Goals as goal

pub returns : goal.returns
returns c = rw (c.min.ensures, c.from.ensures, c.min-start.ensures) (as_far c.args.octets.now c.args.start c.args.count)
