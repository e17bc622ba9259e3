use Rattle.std.proofs.Common.{◌∙◌, ap, sym, length}
use Rattle.x25_packet.proofs.AddressLaws.{length-halves_at}
use Rattle.x25_packet.proofs.halves.Halves.len.Goals as goal

pub returns-clause-number : goal.returns-clause-number
returns-clause-number c =
    sym (length-halves_at c.self.inside.octets.now c.self.inside.start c.self.inside.count c.self.invariant.1)
    ∙ ap length c.self.view_is
