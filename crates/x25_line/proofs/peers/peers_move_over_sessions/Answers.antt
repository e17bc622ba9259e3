use Rattle.x25_line.proofs.rows.PeerSessionRowLemmas.{crossing_peer_moves}
use Rattle.x25_line.proofs.peers.peers_move_over_sessions.Goals as goal

pub returns : goal.returns
returns c = record { crosses = crossing_peer_moves c.reads_what_is_spelled.ensures.reads }
