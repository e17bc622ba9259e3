use Rattle.x25_clock.proofs.RowLemmas as rows
use Rattle.x25_clock.proofs.law.silent_peer_is_left.Goals as goal

pub returns : goal.returns
returns c = rows.silent_peer_is_left
