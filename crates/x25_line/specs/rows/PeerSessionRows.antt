-- A worked row of a peer that our own station isn't like.
use Rattle.std.specs.Prelude.{◌≡◌, [], ◌∷◌}
use Rattle.x25_line.specs.{rows.StationRows.{dte}, laws.PeerSessions.{PeerSessions, ReachedInSessions}}

-- SABM of the station and SABM of the peer cross. The peer begins its session as it answers, and polls by an I frame;
-- the station answers too, and takes UA and that frame behind it, each end in its first session.
abbrev pub CrossingPeerMoves : Type 0
CrossingPeerMoves =
    (w : PeerSessions) × ReachedInSessions ⊥ dte w × (w.near.begun ≡ 1) × (w.peer.begun ≡ 1)
    × (w.near.up 1 ≡ (7 ∷ []) ∷ [])
    × (w.met ≡ record { near = 1; far = 1 } ∷ [])
