use Rattle.x25_packet_judge.proofs.UnseenLemmas as lemma
use Rattle.x25_packet_judge.proofs.law.unseen_is_unknown.Goals as goal

pub returns : goal.returns
returns c = lemma.unseen_is_unknown
