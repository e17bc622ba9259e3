-- Our own station keeps the rules of a peer over set-up and re-set-up: each of two link stations is one of the other.
use Rattle.std.specs.Prelude.{◌≡◌, ℕ, List, ◌∷◌, map, false, Ok}
use Rattle.x25_frame.specs.{Frame.{ua}, Reading.{frame_of}}
use Rattle.x25_link.specs.{Station.{LinkSettings}, Hearing.{other}}
use Rattle.x25_line.specs.{laws.Stations.{Deliver}, laws.Sessions.{Entry, Sessions, turned, swapped, acts}}
use Rattle.x25_line.specs.laws.PeerSessions.{PeerEnd, PeerSessions, ReachedInSessions}

-- what the far end sees of the near end, which is the peer
abbrev pub seen : PeerEnd → Sessions → PeerSessions
seen peer w = record { near = w.far; peer = peer; out = w.back; back = w.out; met = map turned w.met }

-- The near end, with settings d, is a peer of the far end, with settings c: it began the sessions that the station
-- began, and in each it was handed down what that was, and took what that handed up. It sent nothing that is answered
-- by FRMR. By UA with F=0, which a peer may take, it begins no session (`final`).
pub record IsPeer (c d : LinkSettings) (w : Sessions) : Type 0 where
  pub peer : PeerEnd
  pub reached : ReachedInSessions ⊥ c (seen peer w)
  pub begun : peer.begun ≡ w.near.begun
  pub given : (n : ℕ) → (peer.of_session n).given ≡ w.near.down n
  pub taken : (n : ℕ) → (peer.of_session n).taken ≡ w.near.up n
  pub final : (e : Entry) (rest : List Entry) → w.back ≡ e ∷ rest
      → frame_of (other d.role) d.longest e.octets ≡ Ok (ua false) → (acts d Deliver w).near.begun ≡ w.near.begun

abbrev pub AreBothPeers : LinkSettings → LinkSettings → Sessions → Type 0
AreBothPeers c d w = IsPeer d c w × IsPeer c d (swapped w)
