-- An end that keeps the rules of a channel, as a peer of docs/PEER.md: where the two definitions differ. ITU-T X.25
-- (10/96), sections 4.1, 4.3 and 4.4.
use Rattle.std.specs.Prelude.{◌≡◌, ◌↔◌, ℕ, ◌≤◌, [], ◌∷◌, Some, false}
use Rattle.x25_bits.specs.declared.role.Role.{Role}
use Rattle.x25_circuit.specs.Message.{Piece}
use Rattle.x25_circuit.specs.Notice.{CallRequest}
use Rattle.x25_circuit.specs.Params.{may_propose}
use Rattle.x25_handshakes.specs.laws.Handshake.{Side, Live, Left, At, live, left}
use Rattle.x25_handshakes.specs.laws.Stretch as theirs
use Rattle.x25_handshakes.specs.laws.PeerStretch.{PeerStretch, Sends as SendsPiece, MayDo, packet_of}
use Rattle.x25_handshakes.specs.laws.PeerTransfer.{InStretch}
use Rattle.x25_handshakes.specs.laws.PeerCalls.{PeerCall, PlacesCall, InTransfer}
use Rattle.x25_handshakes.specs.laws.PeerCalls.{does_call}
use Rattle.x25_handshakes.specs.laws.PeerChannel.{ChannelDeed, MayDoChannel, does_channel, channel_packet_of}
use Rattle.x25_handshakes.specs.laws.PeerChannel.{channel_taking}
use Rattle.x25_handshakes.specs.laws.Calls.{Stage, Unused, Talking}
use Rattle.x25_handshakes.specs.laws.Terms.{Terms}
use Rattle.x25_possible.specs.Channel.{sends_as, takes}
use Rattle.x25_possible.specs.declared.phase.Phase.{Phase}
use Rattle.x25_possible_peers.specs.laws.Peers.{item_of, phase_of, IsOfRole}

-- ---- where it is

-- It stands as a peer does; or RESET or CLEAR stands in front of what comes to it, which the judge has taken, and it
-- has to answer. A peer takes that as it answers.
pub data End : Type 0 where
  Stands : At PeerCall → End
  Owes : At PeerCall → theirs.Packet → End

abbrev pub IsSized : Stage (At PeerStretch) → Type 0
IsSized (Talking t b at) = 1 ≤ t.size
IsSized stage = Unit {0}

-- it has a role, and its call a packet size
abbrev pub IsPeer : Role → Side PeerCall → Type 0
IsPeer r (Live c) = IsOfRole r (Live c) × IsSized c.stage
IsPeer r (Left c) = Unit {0}

-- the judge has it in this phase
abbrev pub IsAt : Role → End → Phase → Type 0
IsAt r (Stands y) s = IsPeer r y.side × (s ≡ phase_of y.side)
IsAt r (Owes y q) s =
    IsPeer r y.side × (takes r (phase_of y.side) (item_of q) ≡ s)
    × ((a : theirs.Packet) × ((channel_taking r y.epoch y.side q).out ≡ a ∷ []))

-- ---- what it may send, and is then

-- what the judge allows beyond docs/PEER.md
pub data SendsBeyond : End → theirs.Packet → End → Type 0 where
  -- what a CALL proposes may be in no range of the standard (4.1.2, 6.12)
  proposes_any : (e : ℕ) (c : PeerCall) (n : CallRequest) → c.stage ≡ Unused → may_propose n.params ≡ false
      → SendsBeyond (Stands (live e c)) (theirs.Call n)
      (Stands (live e (does_call c.stage c.made c.indicated (PlacesCall n))))
  -- a message gets as long as it does (profile)
  any_length : (e k : ℕ) (c : PeerCall) (t b : Terms) (y : PeerStretch) (piece : Piece) (ack longest : ℕ)
      → c.stage ≡ Talking t b (live k y) → MayDo longest t.size y (SendsPiece piece ack)
      → SendsBeyond (Stands (live e c)) (packet_of y (SendsPiece piece ack))
      (Stands (live e (does_call c.stage c.made c.indicated (InTransfer (InStretch (SendsPiece piece ack))))))
  -- RESET again while the answer to its own is due (4.4.3, timer T22)
  resets_again : (e k : ℕ) (c : PeerCall) (t b : Terms) (y : PeerStretch) → c.stage ≡ Talking t b (left k y)
      → SendsBeyond (Stands (live e c)) theirs.Reset (Stands (live e c))
  -- and CLEAR (4.1.7, timer T23)
  clears_again : (e : ℕ) (c : PeerCall) → SendsBeyond (Stands (left e c)) theirs.Clear (Stands (left e c))

pub data SendsOn (r : Role) : End → theirs.Packet → End → Type 0 where
  -- what a peer does by itself
  does : (y : At PeerCall) (d : ChannelDeed) → MayDoChannel y.side d
      → SendsOn r (Stands y) (channel_packet_of y.side d) (Stands (does_channel y.epoch y.side d))
  -- its answer, as it takes what stands in front
  answers : (y : At PeerCall) (q a : theirs.Packet) → (channel_taking r y.epoch y.side q).out ≡ a ∷ []
      → SendsOn r (Owes y q) a (Stands (channel_taking r y.epoch y.side q).next)
  -- or CLEAR, behind which it drops the RESET in front (4.1.7)
  clears : (e : ℕ) (c : PeerCall)
      → SendsOn r (Owes (live e c) theirs.Reset) theirs.Clear (Stands (channel_taking r e (Left c) theirs.Reset).next)
  beyond : (a b : End) (p : theirs.Packet) → SendsBeyond a p b → SendsOn r a p b

-- ---- what it makes of what comes

abbrev pub NotClear : theirs.Packet → Type 0
NotClear theirs.Clear = ⊥
NotClear p = Unit {0}

-- what the judge allows beyond docs/PEER.md, before an answer
pub data TakesBeyond : End → theirs.Packet → End → Type 0 where
  -- what comes is dropped: so one answer is enough for a RESET that came again (4.4.3, timer T22)
  drops : (y : At PeerCall) (q p : theirs.Packet) → NotClear p → TakesBeyond (Owes y q) p (Owes y q)
  -- or for a CLEAR (4.1.7, timer T23), and a RESET whose call a CLEAR ended needs none (4.1.7)
  cleared : (y : At PeerCall) (q : theirs.Packet) → TakesBeyond (Owes y q) theirs.Clear (Owes y theirs.Clear)

pub data TakesOn (r : Role) : End → theirs.Packet → End → Type 0 where
  -- what a peer makes of it, which it doesn't answer
  hears : (y : At PeerCall) (q : theirs.Packet) → (channel_taking r y.epoch y.side q).out ≡ []
      → TakesOn r (Stands y) q (Stands (channel_taking r y.epoch y.side q).next)
  -- or answers
  owes : (y : At PeerCall) (q a : theirs.Packet) → (channel_taking r y.epoch y.side q).out ≡ a ∷ []
      → TakesOn r (Stands y) q (Owes y q)
  beyond : (a b : End) (q : theirs.Packet) → TakesBeyond a q b → TakesOn r a q b

-- ---- the rules of a channel are those of peers, and no more than that

pub record ChannelRulesArePeers : Type 0 where
  pub sends : (r : Role) (a : End) (p : theirs.Packet) (s u : Phase) → IsAt r a s
      → ((t : ℕ) × (sends_as t s (item_of p) ≡ Some u)) ↔ ((b : End) × SendsOn r a p b × IsAt r b u)
  pub takes : (r : Role) (a : End) (q : theirs.Packet) (s u : Phase) → IsAt r a s
      → (takes r s (item_of q) ≡ u) ↔ ((b : End) × TakesOn r a q b × IsAt r b u)
