use Rattle.x25_bits.proofs.ContentLemmas.{unstuff-stuff}
use Rattle.x25_bits.proofs.laws.stuffing_is_undone.Goals as goal

pub returns : goal.returns
returns c = unstuff-stuff
