use Rattle.x25_possible.proofs.AloneLemmas.{stood}
use Rattle.x25_possible.proofs.set.Set.stands.Goals as goal

pub returns : goal.returns
returns c = stood c.args.self.now c.args.phase c.deref_mut.result.now c.requires c.deref_mut.ensures.value
