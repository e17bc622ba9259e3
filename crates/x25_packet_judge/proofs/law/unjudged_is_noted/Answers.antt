use Rattle.x25_packet_judge.proofs.NotedLemmas as lemma
use Rattle.x25_packet_judge.proofs.law.unjudged_is_noted.Goals as goal

pub returns : goal.returns
returns c = lemma.unjudged_is_noted
