-- What an end of a channel that keeps the rules does between two restarts, and what it makes of what comes, keeps what is kept of it and another such end;
-- and what it expects.
use Rattle.x25_handshakes.proofs.Names.{◌≡◌, ℕ, List, [], ◌∷◌, ◌++◌, refl, Inner, Side, Live, Left, At, Packet, Clear, ClearConf, PeerCall}
use Rattle.x25_handshakes.proofs.Names.{does_call, call_packet_of, call_taking, InCall, does_channel, channel_packet_of, channel_taking, other_role, Laws}
use Rattle.x25_handshakes.proofs.Names.{Role, Dte, Dce}
use Rattle.x25_handshakes.proofs.ChannelRelation.{clear_mark, TwoCalls, two_call_level, TwoChannels}
use Rattle.x25_handshakes.proofs.HandshakeLemmas.{each_back, hand_flip, hand_map, both_fresh, request_gone, confirm_never, live_front}
use Rattle.x25_handshakes.proofs.{HandshakeRelation.{Level}, HandshakeSteps.{Any, Answers, acts_inside, leaves, answered}}
use Rattle.x25_handshakes.proofs.PeerCallLemmas.{Next, two_calls_takes, two_calls_does, two_calls_quiet, TwoCalls-fresh}
use Rattle.x25_handshakes.proofs.StageLemmas.{MayCome}
use Rattle.x25_handshakes.specs.laws.PeerChannel.{fresh_peer_channel, ChannelDeed, Clears, MayDoChannel}

-- what is asked of an end as it sends CLEAR
abbrev pub MayLeave : (PeerCall → Type 0) → Side PeerCall → ChannelDeed → Type 0
MayLeave G (Live x) Clears = G x
MayLeave G side d = Unit {0}

-- what it expects of the other, of which H is asked
abbrev pub ChannelNext : (PeerCall → Type 0) → Role → Side PeerCall → Packet → Type 0
ChannelNext H r (Live x) Clear = (w : List Packet) × (z : PeerCall) × H z × TwoCalls r x w [] z
ChannelNext H r (Live x) ClearConf = ⊥
ChannelNext H r (Live x) p = MayCome r Next x.stage p
ChannelNext H r (Left x) p = Unit {0}

-- seen from the other end
TwoCalls-flip : (r : Role) (x : PeerCall) (u v : List Packet) (y : PeerCall) → TwoCalls r x u v y → TwoCalls (other_role r) y v u x
TwoCalls-flip Dte x u v y h = h
TwoCalls-flip Dce x u v y h = h

pub two_channel_flip : {G H : PeerCall → Type 0} (r : Role) {x : At PeerCall} {L K : List Packet} {y : At PeerCall} → TwoChannels G H r x L K y
    → TwoChannels H G (other_role r) y K L x
two_channel_flip r h = record { hand = hand_flip (hand_map (λ x u v y. TwoCalls (other_role r) y v u x) (TwoCalls-flip r) h.hand) }

module _ (G H : PeerCall → Type 0) (r : Role) where
  abbrev level : Level PeerCall PeerCall Packet
  level = two_call_level G H r

  pub two_channel_fresh : TwoChannels G H r fresh_peer_channel [] [] fresh_peer_channel
  two_channel_fresh = record { hand = both_fresh level (TwoCalls-fresh r) 0 }

  answers : (e : ℕ) (x : Side PeerCall) (p : Packet) → (let s = channel_taking r e x p in Answers level Any e x p (clear_mark p) s.next s.out)
  answers e (Live x) Clear = record { confirm = ClearConf; is = refl; at = refl; sent = refl; passes = tt }
  answers e (Live x) ClearConf = tt
  answers e (Live x) p =
      let s = call_taking r x.stage x.made x.indicated p in
      record {
        after = s.next;
        goes = λ w v z k. (let kept = (two_calls_takes r x w p v z k).1 in
            record {
              at = refl;
              inner = each_back (λ p. clear_mark p ≡ Inner) w s.out (two_calls_quiet r s.next (w ++ s.out) v z kept).0;
              passes = tt;
              kept = kept;
            });
      }
  answers e (Left x) Clear = (refl, refl)
  answers e (Left x) p = (refl, refl)

  -- what it makes of the packet in front
  pub two_channel_takes : (e : ℕ) (x : Side PeerCall) (p : Packet) (L K : List Packet) (y : At PeerCall)
      → TwoChannels G H r (record { epoch = e; side = x }) L (p ∷ K) y
      → (let s = channel_taking r e x p in TwoChannels G H r s.next (L ++ s.out) K y)
  two_channel_takes e x p L K y h = (answered level Any tt (TwoCalls-fresh r) (answers e x p) K h).0

  -- what it may do of its own accord
  pub two_channel_does : Laws → (e : ℕ) (x : Side PeerCall) (d : ChannelDeed) → MayDoChannel x d → MayLeave G x d → (L K : List Packet) (y : At PeerCall)
      → TwoChannels G H r (record { epoch = e; side = x }) L K y
      → TwoChannels G H r (does_channel e x d) (L ++ channel_packet_of x d ∷ []) K y
  two_channel_does laws e (Live x) (InCall d) may leave L K y h =
      let p = call_packet_of x.stage d in
      let next = does_call x.stage x.made x.indicated d in
      (acts_inside level Any e x _ _ (record {
        after = next;
        goes = λ w v z k. (let kept = two_calls_does laws r x w v z d may k in
            record {
              at = refl;
              inner = each_back (λ p. clear_mark p ≡ Inner) w (p ∷ []) (two_calls_quiet r next (w ++ p ∷ []) v z kept).0;
              passes = tt;
              kept = kept;
            });
      }) L K y h).0
  two_channel_does laws e (Live x) Clears may leave L K y h = (leaves level Any Clear refl e x leave h)
  two_channel_does laws e (Left x) d may leave L K y h = absurd may

  -- what is in front is expected
  pub channel_next : (e : ℕ) (x : Side PeerCall) (p : Packet) (L K : List Packet) (y : At PeerCall)
      → TwoChannels G H r (record { epoch = e; side = x }) L (p ∷ K) y → ChannelNext H r x p
  channel_next e (Live x) Clear L K y h = request_gone level Clear refl e y.epoch x y.side L K h.hand
  channel_next e (Live x) ClearConf L K y h = absurd (confirm_never ClearConf refl x K h.hand)
  channel_next e (Live x) p L K y h = (let m = live_front level p refl e y.epoch x y.side L K h.hand in (two_calls_takes r x m.0 p m.1 m.2 m.3).0)
  channel_next e (Left x) p L K y h = tt
