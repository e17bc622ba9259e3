use Rattle.x25_possible.proofs.BeyondLemmas as lemma
use Rattle.x25_possible.proofs.law.requests_go_again.Goals as goal

pub returns : goal.returns
returns c = lemma.requests_go_again
