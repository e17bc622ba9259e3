use Rattle.x25_bits.proofs.BlockLemmas.{last_is}
use Rattle.x25_bits.proofs.frame_check.last_word.Goals as goal

pub returns : goal.returns
returns c = last_is c.args.held.first c.args.held.second c.args.held.third c.args.held.fourth _ _ _ c.folded.ensures c.folded-2.ensures c.folded-3.ensures
