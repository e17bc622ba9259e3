use Rattle.x25_packet_judge.proofs.UnseenLemmas as lemma
use Rattle.x25_packet_judge.proofs.law.whole_books_follow.Goals as goal

pub returns : goal.returns
returns c = lemma.whole_books_follow
