use Rattle.x25_peer.proofs.rows.BesideSessionRowLemmas.{lost_sabm_goes_again, damaged_ua_is_missing, leaving_peer_asks}
use Rattle.x25_peer.proofs.law.stations_move_beside_peers.Goals as goal

pub returns : goal.returns
returns c = record { lost = lost_sabm_goes_again; damaged = damaged_ua_is_missing; leaves = leaving_peer_asks }
