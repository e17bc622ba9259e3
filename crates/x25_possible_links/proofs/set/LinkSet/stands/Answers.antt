use Rattle.x25_possible_links.proofs.Alone.{stood}
use Rattle.x25_possible_links.proofs.set.LinkSet.stands.Goals as goal

pub returns : goal.returns
returns c = stood c.args.self.now c.args.k c.deref_mut.result.now c.requires c.deref_mut.ensures.value
