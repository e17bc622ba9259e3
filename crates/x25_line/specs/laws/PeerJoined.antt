-- A station and a peer, joined by a line of octets that keeps order and may lose or visibly damage any frame
-- (profile: the line).
use Rattle.std.specs.Prelude.{◌≡◌, ℕ, List, [], ◌∷◌, ◌++◌}
use Rattle.x25_frame.specs.Reading.{frame_of}
use Rattle.x25_link.specs.{Station.{LinkSettings}, Hearing.{other}}
use Rattle.x25_line.specs.laws.Stations.{StationEnd, Stations, Act, acts, fresh_station, IsSeen}
use Rattle.x25_line.specs.laws.Loss.{LessAt}
use Rattle.x25_line.specs.laws.Peer.{Peer, fresh_peer, MaySend, MayHear}

-- The station, the peer, and the octets on the line from the station and on the line to it, front first.
pub record JoinedOnce : Type 0 where
  pub near : StationEnd
  pub peer : Peer
  pub out : List (List ℕ)
  pub back : List (List ℕ)

-- the link was just set up
abbrev pub start : JoinedOnce
start = record { near = fresh_station; peer = fresh_peer; out = []; back = [] }

-- the station's end of the line, as two stations have it: an act of the near end changes nothing of the far end
abbrev pub our_end : JoinedOnce → Stations
our_end w = record { near = w.near; far = fresh_station; out = w.out; back = w.back; sent = [] }

abbrev pub with_peer : Peer → Stations → JoinedOnce
with_peer p v = record { near = v.near; peer = p; out = v.out; back = v.back }

-- What may happen next. `Odd` is that of `MaySend`.
pub data HappensOnce (Odd : Type 0) (c : LinkSettings) (w : JoinedOnce) : JoinedOnce → Type 0 where
  -- The station acts, by its definition: a packet is handed down, octets come, T1 runs out, connect, disconnect,
  -- abandon. Or octets on the line to it are lost or visibly damaged.
  Ours : (act : Act) → HappensOnce Odd c w (with_peer w.peer (acts c act (our_end w)))
  -- the peer is handed down a packet
  HandsDown : (packet : List ℕ)
      → HappensOnce Odd c w (record w { peer = record w.peer { given = w.peer.given ++ packet ∷ [] } })
  -- the peer sends octets
  Sends : (octets : List ℕ) (q : Peer) → MaySend Odd w.peer (frame_of (other c.role) c.longest octets) q
      → HappensOnce Odd c w (record w { peer = q; back = w.back ++ octets ∷ [] })
  -- the front octets come to the peer
  Hears : (octets : List ℕ) (rest : List (List ℕ)) (q : Peer) → w.out ≡ octets ∷ rest
      → MayHear w.peer (frame_of c.role c.longest octets) q → HappensOnce Odd c w (record w { peer = q; out = rest })
  -- octets on the line to the peer are lost, or others come in their place
  Loses : (place : ℕ) (os : List (List ℕ)) → LessAt IsSeen place w.out os → HappensOnce Odd c w (record w { out = os })

-- what is reached, event by event
pub data ReachedOnce (Odd : Type 0) (c : LinkSettings) : JoinedOnce → Type 0 where
  at_start : ReachedOnce Odd c start
  goes_on : (w v : JoinedOnce) → ReachedOnce Odd c w → HappensOnce Odd c w v → ReachedOnce Odd c v
