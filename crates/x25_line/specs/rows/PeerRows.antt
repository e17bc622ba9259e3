-- Worked rows of peers that our own station isn't like, and of the rules of a tape.
use Rattle.std.specs.Prelude.{◌≡◌, true, false, [], ◌∷◌, None, Ok}
use Rattle.x25_frame.specs.Frame.{PlainFrame, info, rr}
use Rattle.x25_line.specs.{laws.Peer.{Peer}, laws.PeerJoined.{JoinedOnce, ReachedOnce}, laws.Tape.{judges, IsSilent}}
use Rattle.x25_line.specs.rows.StationRows.{dte}

abbrev pub polling_frame : PlainFrame
polling_frame = info 0 0 true (7 ∷ [])

-- A peer takes a packet and says nothing; then it sends one of its own in an I frame with P=1 that acknowledges none.
abbrev pub OddPeerMoves : Type 0
OddPeerMoves =
    (w : JoinedOnce) × ReachedOnce ⊥ dte w × (w.near.up ≡ (7 ∷ []) ∷ []) × (w.peer.taken ≡ (5 ∷ []) ∷ [])
    × (w.near.came_up ≡ false)

-- A tape of which nothing is told: that I frame comes, and is acknowledged.
abbrev pub SilentTapeMoves : Type 0
SilentTapeMoves = (w : JoinedOnce) × IsSilent dte w × (w.near.up ≡ (7 ∷ []) ∷ []) × (w.peer.acked ≡ 1)
    × (w.near.came_up ≡ false)

-- the peer sent the packet of one octet, 7, and took and acknowledged that of one octet, 5
abbrev pub both_went : Peer
both_went = record { given = (7 ∷ []) ∷ []; acked = 0; sent = 1; told = 1; taken = (5 ∷ []) ∷ [] }

-- the peer sent seven packets, of which none is acknowledged to it
abbrev pub seven_went : Peer
seven_went =
    record { given = [] ∷ [] ∷ [] ∷ [] ∷ [] ∷ [] ∷ [] ∷ []; acked = 0; sent = 7; told = 0; taken = [] }

-- What is told: another packet under a number that went already, an eighth that isn't acknowledged, an N(R) that
-- acknowledges what was never sent, and one that falls.
pub record TapeTells : Type 0 where
  pub other_packet : judges (Ok (info 0 1 false (8 ∷ []))) both_went ≡ None
  pub eighth : judges (Ok (info 7 0 false [])) seven_went ≡ None
  pub never_sent : judges (Ok (rr false 2 false)) both_went ≡ None
  pub falls : judges (Ok (rr false 0 false)) both_went ≡ None
