use Rattle.x25_handshakes.proofs.PeerRowLemmas.{late_peer_moves, peer_layer_moves}
use Rattle.x25_handshakes.proofs.law.peers_move.Goals as goal

pub returns : goal.returns
returns c = record { late = late_peer_moves; layer = peer_layer_moves c.values_are_agreed.ensures.no_field }
