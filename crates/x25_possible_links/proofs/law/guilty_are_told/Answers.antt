use Rattle.x25_possible_links.proofs.SetLemmas as lemma
use Rattle.x25_possible_links.proofs.law.guilty_are_told.Goals as goal

pub returns : goal.returns
returns c = lemma.guilty_are_told
