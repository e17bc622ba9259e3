use Rattle.x25_decode.proofs.HeldLemmas.{long_gap, long_sent}
use Rattle.x25_decode.proofs.law.long_lines_send_nothing.Goals as goal

pub returns-clause-sent : goal.returns-clause-sent
returns-clause-sent c = long_sent

pub returns-clause-gap : goal.returns-clause-gap
returns-clause-gap c = long_gap
