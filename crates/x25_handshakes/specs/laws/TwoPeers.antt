-- Any two ends of a call in p4, over lines that keep order: both keep the rules of a peer. What an end does is said
-- once: the far end's moves are those of the near one, seen from there.
use Rattle.std.specs.Prelude.{◌≡◌, suc, ◌%◌, ◌≤◌, List, [], ◌∷◌, ◌++◌, length, false, true, None}
use Rattle.x25_circuit.specs.Message.{no_part, joining, piece_ground}
use Rattle.x25_window.specs.code.Modulo.{resolved}
use Rattle.x25_handshakes.specs.{laws.Handshake.{Side, Live, Left, Two, swapped, live}, laws.Histories.{IsPrefix}}
use Rattle.x25_handshakes.specs.laws.Stretch.{Packet, Data, Rr, Rnr, Int, IntConf, Reset, ResetConf, Call, Accept}
use Rattle.x25_handshakes.specs.{laws.Stretch.{Clear, ClearConf}, laws.PeerStretch.{PeerStretch, fresh_peer}}
use Rattle.x25_handshakes.specs.laws.PeerTransfer.{fresh_peer_transfer, TransferDeed, MayDoTransfer, does_transfer}
use Rattle.x25_handshakes.specs.laws.PeerTransfer.{transfer_packet_of, transfer_taking, AreNoResets}
use Rattle.x25_handshakes.specs.{laws.PeerClaims.{InEpochs}, laws.Terms.{Terms}}

abbrev pub TwoEnds : Type 0
TwoEnds = Two PeerStretch Packet

abbrev pub start : TwoEnds
start = record { near = fresh_peer_transfer; far = fresh_peer_transfer; out = []; back = [] }

-- What the near end may do, which sends by these terms, of which the window isn't asked.
pub data Moves (t : Terms) (w : TwoEnds) : TwoEnds → Type 0 where
  -- it sends a packet
  Does : (deed : TransferDeed) → MayDoTransfer t.longest t.size w.near.side deed
      → Moves t w (record w {
        near = does_transfer w.near.epoch w.near.side deed;
        out = w.out ++ transfer_packet_of w.near.side deed ∷ [];
      })
  -- it takes the packet in front
  Hears : (p : Packet) (rest : List Packet) → w.back ≡ p ∷ rest
      → Moves t w (record w {
        near = (transfer_taking w.near.epoch w.near.side p).next;
        out = w.out ++ (transfer_taking w.near.epoch w.near.side p).out;
        back = rest;
      })
  -- it takes a RESET before what stands in front of it, which it drops
  Skips : (y : PeerStretch) (dropped rest : List Packet) → AreNoResets dropped → w.near.side ≡ Live y
      → w.back ≡ dropped ++ Reset ∷ rest
      → Moves t w (record w { near = live (suc w.near.epoch) fresh_peer; out = w.out ++ ResetConf ∷ []; back = rest })

-- what is reached, where the near end sends by the first terms, and the far one by the second
pub data IsReached (t b : Terms) : TwoEnds → Type 0 where
  at_start : IsReached t b start
  near_moves : (w v : TwoEnds) → IsReached t b w → Moves t w v → IsReached t b v
  far_moves : (w v : TwoEnds) → IsReached t b w → Moves b (swapped w) v → IsReached t b (swapped v)

-- ---- what holds of them

-- Of one stretch, one way: data packets are taken as they were sent, what is acknowledged was taken, and all was taken
-- where all is acknowledged. And so of interrupts, all where none is out.
pub record InOrder (giver taker : PeerStretch) : Type 0 where
  pub begins : IsPrefix taker.taken giver.sent
  pub acked : giver.acked ≤ length taker.taken
  pub all : giver.acked ≡ length giver.sent → taker.taken ≡ giver.sent
  pub interrupts : IsPrefix taker.int_up giver.int_down
  pub all_interrupts : giver.int_out ≡ false → taker.int_up ≡ giver.int_down

abbrev pub BothInOrder : PeerStretch → PeerStretch → Type 0
BothInOrder x y = InOrder x y × InOrder y x

-- What an end in its stretch expects of the other, which sends by these terms: P(S) is the next, P(R) acknowledges what
-- was sent, a data packet is none that is refused, and a confirmation is of its interrupt.
abbrev pub Expects : Terms → PeerStretch → Packet → Type 0
Expects b x (Data s r p) = (s ≡ length x.taken % 8) × (resolved x.acked r ≤ length x.sent)
    × (piece_ground b.longest b.size (joining no_part x.taken) p ≡ None)
Expects b x (Rr r) = resolved x.acked r ≤ length x.sent
Expects b x (Rnr r) = resolved x.acked r ≤ length x.sent
Expects b x (Int user) = Unit {0}
Expects b x IntConf = x.int_out ≡ true
Expects b x other = ⊥

-- no packet of another phase
abbrev pub IsOfTransfer : Packet → Type 0
IsOfTransfer (Call item) = ⊥
IsOfTransfer (Accept field longest) = ⊥
IsOfTransfer Clear = ⊥
IsOfTransfer ClearConf = ⊥
IsOfTransfer other = Unit {0}

-- what comes next is expected, or is a RESET
abbrev pub ExpectsNext : Terms → Side PeerStretch → Packet → Type 0
ExpectsNext b (Live x) Reset = Unit {0}
ExpectsNext b (Live x) p = Expects b x p
ExpectsNext b (Left x) p = IsOfTransfer p

abbrev pub ExpectsFront : Terms → Side PeerStretch → List Packet → Type 0
ExpectsFront b side [] = Unit {0}
ExpectsFront b side (p ∷ rest) = ExpectsNext b side p

pub record KeepOrder (t b : Terms) (w : TwoEnds) : Type 0 where
  pub order : InEpochs BothInOrder fresh_peer fresh_peer w.near w.far
  pub near_expects : ExpectsFront b w.near.side w.back
  pub far_expects : ExpectsFront t w.far.side w.out

abbrev pub OfAnyTwoPeers : (Terms → Terms → TwoEnds → Type 0) → Type 0
OfAnyTwoPeers Holds = (t b : Terms) (w : TwoEnds) → IsReached t b w → Holds t b w
