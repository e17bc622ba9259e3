use Rattle.x25_packet_judge.proofs.RestartLemmas as lemma
use Rattle.x25_packet_judge.proofs.law.restarts_begin.Goals as goal

pub returns : goal.returns
returns c = lemma.restarts_begin
