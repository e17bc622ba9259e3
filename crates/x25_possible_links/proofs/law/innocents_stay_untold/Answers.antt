use Rattle.x25_possible_links.proofs.SetLemmas as lemma
use Rattle.x25_possible_links.proofs.law.innocents_stay_untold.Goals as goal

pub returns : goal.returns
returns c = lemma.innocents_stay_untold
