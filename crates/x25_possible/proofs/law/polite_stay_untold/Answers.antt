use Rattle.x25_possible.proofs.TapeLemmas as lemma
use Rattle.x25_possible.proofs.law.polite_stay_untold.Goals as goal

pub returns : goal.returns
returns c = lemma.polite_stay_untold
