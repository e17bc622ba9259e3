use Rattle.x25_possible.proofs.TapeLemmas as lemma
use Rattle.x25_possible.proofs.law.innocents_stay_untold.Goals as goal

pub returns : goal.returns
returns c = lemma.innocents_stay_untold
