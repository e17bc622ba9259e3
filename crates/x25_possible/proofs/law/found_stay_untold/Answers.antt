use Rattle.x25_possible.proofs.TapeLemmas as lemma
use Rattle.x25_possible.proofs.law.found_stay_untold.Goals as goal

pub returns : goal.returns
returns c = lemma.found_stay_untold
