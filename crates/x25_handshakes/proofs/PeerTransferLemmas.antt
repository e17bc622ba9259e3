-- What an end that keeps the rules does in p4, and what it makes of what comes, keeps what is kept of it and another such end; and what it expects.
use Rattle.x25_handshakes.proofs.Names.{◌≡◌, ℕ, suc, List, [], ◌∷◌, ◌++◌, true, false, refl, sym, subst, append-nil, At, Inner, Side, Live, Left, live}
use Rattle.x25_handshakes.proofs.Names.{Packet, Data, Rr, Rnr, Int, IntConf, Reset, ResetConf, Call, Accept, Clear, ClearConf, PeerStretch, fresh_peer}
use Rattle.x25_handshakes.proofs.Names.{Deed, Sends, Says, does, packet_of, taking, fresh_peer_transfer, TransferDeed, InStretch, MayDoTransfer}
use Rattle.x25_handshakes.proofs.Names.{does_transfer, transfer_packet_of, transfer_taking, Terms}
use Rattle.x25_handshakes.proofs.HandshakeLemmas.{each_append, each_back, request_skips, both_fresh, live_front, confirm_never, hand_flip, hand_map}
use Rattle.x25_handshakes.proofs.{HandshakeRelation.{Level, Handshaken, AllInner}, HandshakeSteps.{Answers, acts_inside, leaves, answered}}
use Rattle.x25_handshakes.proofs.{PeerDeeds.{Kept-start, Kept-flip, does_kept, taking_kept, expects}, StretchRelation.{InFlowControl, Kept}}
use Rattle.x25_handshakes.proofs.TransferRelation.{reset_mark, two_level, AllInTransfer, TwoTransfers}
use Rattle.x25_handshakes.specs.laws.{PeerTransfer.{Resets, IsNoReset, AreNoResets}, TwoPeers.{IsOfTransfer, Expects, ExpectsFront}}

-- a packet of flow control is neither RESET nor its confirmation
pub inner_mark : (p : Packet) → InFlowControl p → reset_mark p ≡ Inner
inner_mark Reset is = absurd is
inner_mark ResetConf is = absurd is
inner_mark other is = refl

pub in_transfer : (p : Packet) → InFlowControl p → IsOfTransfer p
in_transfer (Data s r p) is = tt
in_transfer (Rr r) is = tt
in_transfer (Rnr r) is = tt
in_transfer (Int xs) is = tt
in_transfer IntConf is = tt
in_transfer p is = absurd is

open_deed : (y : PeerStretch) (d : Deed) → InFlowControl (packet_of y d)
open_deed y (Sends p n) = tt
open_deed y (Says true n) = tt
open_deed y (Says false n) = tt
open_deed y d = tt

no_reset_mark : (p : Packet) → IsNoReset p → reset_mark p ≡ Inner
no_reset_mark Reset is = absurd is
no_reset_mark ResetConf is = absurd is
no_reset_mark p is = refl

no_resets_inner : (ps : List Packet) → AreNoResets ps → AllInner reset_mark ps
no_resets_inner [] h = tt
no_resets_inner (p ∷ ps) h = (no_reset_mark p h.0, no_resets_inner ps h.1)

module _ (t b : Terms) where
  abbrev level : Level PeerStretch PeerStretch Packet
  level = two_level t b

  -- what it may do of its own accord
  deed_kept : (L K : List Packet) (e : ℕ) (x : Side PeerStretch) (y : At PeerStretch) (d : TransferDeed) → MayDoTransfer t.longest t.size x d
      → Handshaken level (record { epoch = e; side = x }) L K y
      → (let p = transfer_packet_of x d in Handshaken level (does_transfer e x d) (L ++ p ∷ []) K y × AllInTransfer (p ∷ []))
  deed_kept L K e (Live x) y (InStretch d) may h =
      acts_inside level AllInTransfer e x _ _
      (record {
        after = does x d;
        goes = λ w v z r. record {
          at = refl;
          inner = (inner_mark _ (open_deed x d), tt);
          passes = (in_transfer _ (open_deed x d), tt);
          kept = does_kept d may r;
        };
      })
      L K y h
  deed_kept L K e (Live x) y Resets may h = (leaves level AllInTransfer Reset refl e x tt h, (tt, tt))
  deed_kept L K e (Left x) y d may h = absurd may

  answers : (e : ℕ) (x : Side PeerStretch) (p : Packet) → IsOfTransfer p
      → (let s = transfer_taking e x p in Answers level AllInTransfer e x p (reset_mark p) s.next s.out)
  answers e x (Call i) is = absurd is
  answers e x (Accept field most) is = absurd is
  answers e x Clear is = absurd is
  answers e x ClearConf is = absurd is
  answers e (Live x) Reset is = record { confirm = ResetConf; is = refl; at = refl; sent = refl; passes = (tt, tt) }
  answers e (Live x) ResetConf is = tt
  answers e (Live x) p is = record {
    after = taking x p;
    goes = λ w v z r. record {
      at = refl;
      inner = tt;
      passes = tt;
      kept = subst (λ u. Kept t b (taking x p) u v z) (sym (append-nil w)) (taking_kept p v r);
    };
  }
  answers e (Left x) p is = (refl, refl)

  -- what it makes of a packet that comes
  taking_good : (e : ℕ) (x : Side PeerStretch) (p : Packet) (L K : List Packet) (y : At PeerStretch) → IsOfTransfer p
      → Handshaken level (record { epoch = e; side = x }) L (p ∷ K) y
      → (let s = transfer_taking e x p in Handshaken level s.next (L ++ s.out) K y × AllInTransfer s.out)
  taking_good e x p L K y is h = answered level AllInTransfer tt (Kept-start t b) (answers e x p is) K h

  -- or of a RESET before what stands in front of it
  skip_kept : (e : ℕ) (z : PeerStretch) (dropped L K : List Packet) (y : At PeerStretch) → AreNoResets dropped
      → Handshaken level (live e z) L (dropped ++ Reset ∷ K) y → Handshaken level (live (suc e) fresh_peer) (L ++ ResetConf ∷ []) K y
  skip_kept e z dropped L K y none h = record {
    hand = request_skips (Kept-start t b) ResetConf Reset dropped (no_resets_inner dropped none) refl refl z K h.hand;
  }

pub two_fresh : (t b : Terms) → TwoTransfers t b fresh_peer_transfer [] [] fresh_peer_transfer
two_fresh t b = record { hand = record { hand = both_fresh (two_level t b) (Kept-start t b) 0 }; there = tt; back = tt }

-- seen from the far end
pub two_flip : {t b : Terms} {x : At PeerStretch} {L K : List Packet} {y : At PeerStretch} → TwoTransfers t b x L K y → TwoTransfers b t y K L x
two_flip {t} {b} h = record {
  hand = record { hand = hand_flip (hand_map (λ x u v y. Kept b t y v u x) (λ x u v y k. Kept-flip k) h.hand.hand) };
  there = h.back;
  back = h.there;
}

-- what the near end may do of its own accord
pub two_does : {t b : Terms} (e : ℕ) {x : Side PeerStretch} (d : TransferDeed) → MayDoTransfer t.longest t.size x d → {L K : List Packet}
    {y : At PeerStretch} → TwoTransfers t b (record { epoch = e; side = x }) L K y
    → TwoTransfers t b (does_transfer e x d) (L ++ transfer_packet_of x d ∷ []) K y
two_does {t} {b} e {x} d may {L} {K} {y} h =
    let s = deed_kept t b L K e x y d may h.hand in
    record { hand = s.0; there = each_append IsOfTransfer L _ h.there s.1; back = h.back }

-- what it makes of the packet in front
pub two_takes : {t b : Terms} (e : ℕ) (x : Side PeerStretch) (p : Packet) {L : List Packet} (K : List Packet) {y : At PeerStretch}
    → TwoTransfers t b (record { epoch = e; side = x }) L (p ∷ K) y
    → (let s = transfer_taking e x p in TwoTransfers t b s.next (L ++ s.out) K y)
two_takes {t} {b} e x p {L} K {y} h =
    let s = taking_good t b e x p L K y h.back.0 h.hand in
    record { hand = s.0; there = each_append IsOfTransfer L _ h.there s.1; back = h.back.1 }

-- or of a RESET before what stands in front of it
pub two_skips : {t b : Terms} (e : ℕ) (z : PeerStretch) (dropped : List Packet) {L : List Packet} (K : List Packet) {y : At PeerStretch}
    → AreNoResets dropped → TwoTransfers t b (live e z) L (dropped ++ Reset ∷ K) y → TwoTransfers t b (live (suc e) fresh_peer) (L ++ ResetConf ∷ []) K y
two_skips {t} {b} e z dropped {L} K {y} none h = record {
  hand = skip_kept t b e z dropped L K y none h.hand;
  there = each_append IsOfTransfer L _ h.there (tt, tt);
  back = (each_back IsOfTransfer dropped (Reset ∷ K) h.back).1;
}

-- ---- what it expects

inner_front : {t b : Terms} {x y : At PeerStretch} (z : PeerStretch) (p : Packet) (L K : List Packet) → x.side ≡ Live z → reset_mark p ≡ Inner
    → Handshaken (two_level t b) x L (p ∷ K) y → Expects b z p
inner_front {t} {b} {x} {y} z p L K live is h =
    let hand = subst (λ s. Handshaken (two_level t b) (record { epoch = x.epoch; side = s }) L (p ∷ K) y) live h in
    expects p (live_front (two_level t b) p is x.epoch y.epoch z y.side L K hand.hand).3

by_side : {t b : Terms} {x y : At PeerStretch} (side : Side PeerStretch) (L K : List Packet) → x.side ≡ side → AllInTransfer K
    → Handshaken (two_level t b) x L K y → ExpectsFront b side K
by_side side L [] is kinds h = tt
by_side (Left z) L (p ∷ K) is kinds h = kinds.0
by_side (Live z) L (Reset ∷ K) is kinds h = tt
by_side {t} {b} {x} {y} (Live z) L (ResetConf ∷ K) is kinds h =
    absurd (confirm_never ResetConf refl z K (subst (λ s. Handshaken (two_level t b) (record { epoch = x.epoch; side = s }) L (ResetConf ∷ K) y) is h).hand)
by_side (Live z) L (Call i ∷ K) is kinds h = absurd kinds.0
by_side (Live z) L (Accept field most ∷ K) is kinds h = absurd kinds.0
by_side (Live z) L (Clear ∷ K) is kinds h = absurd kinds.0
by_side (Live z) L (ClearConf ∷ K) is kinds h = absurd kinds.0
by_side (Live z) L (p ∷ K) is kinds h = inner_front z p L K is refl h

pub front : {t b : Terms} (x : At PeerStretch) {L : List Packet} (K : List Packet) {y : At PeerStretch} → TwoTransfers t b x L K y → ExpectsFront b x.side K
front x {L} K h = by_side x.side L K refl h.back h.hand
