use Rattle.x25_possible.proofs.BeyondLemmas as lemma
use Rattle.x25_possible.proofs.law.numbers_go_on.Goals as goal

pub returns : goal.returns
returns c = lemma.numbers_go_on
