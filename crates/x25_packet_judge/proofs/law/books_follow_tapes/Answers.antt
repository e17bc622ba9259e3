use Rattle.x25_packet_judge.proofs.BookLemmas as lemma
use Rattle.x25_packet_judge.proofs.law.books_follow_tapes.Goals as goal

pub returns : goal.returns
returns c = lemma.books_follow_tapes
