use Rattle.x25_c.proofs.AskedLemmas.{answered}
use Rattle.x25_c.proofs.held.Held.obey.Goals as goal

pub returns : goal.returns
returns c = answered _ _ _ _ _ c.read_command.ensures
