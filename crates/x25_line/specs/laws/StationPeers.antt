-- Our own station keeps the rules of a peer: each of two link stations is one of the other.
use Rattle.std.specs.Prelude.{◌≡◌}
use Rattle.x25_link.specs.Station.{LinkSettings}
use Rattle.x25_line.specs.{laws.Stations.{Stations, stations_swapped}, laws.Peer.{Peer}}
use Rattle.x25_line.specs.laws.PeerJoined.{JoinedOnce, ReachedOnce}

-- what a station with these settings sees of the near end, which is the peer
abbrev pub seen : Peer → Stations → JoinedOnce
seen peer w = record { near = w.far; peer = peer; out = w.back; back = w.out }

-- The near end is a peer of the far end, whose settings are c: it was handed down what the station was, took what that
-- handed up, and sent nothing that is answered by FRMR.
pub record IsPeer (c : LinkSettings) (w : Stations) : Type 0 where
  pub peer : Peer
  pub reached : ReachedOnce ⊥ c (seen peer w)
  pub given : peer.given ≡ w.near.down
  pub taken : peer.taken ≡ w.near.up

abbrev pub AreBothPeers : LinkSettings → LinkSettings → Stations → Type 0
AreBothPeers c d w = IsPeer d w × IsPeer c (stations_swapped w)
