-- What a packet layer that keeps the rules does, and what it makes of what comes, keeps what is kept of it and another such layer; and what it expects.
use Rattle.x25_handshakes.proofs.Names.{◌≡◌, ℕ, List, [], ◌∷◌, ◌++◌, Bool, true, false, if◌then◌else◌, refl, sym, ap, subst, ◌∙◌, ◌==◌, eq-eqb}
use Rattle.x25_handshakes.proofs.Names.{eqb-true, append-nil, Side, Live, Left, At, live, Packet, LayerPacket, On, Restart, RestartConf, addressed, PeerCall}
use Rattle.x25_handshakes.proofs.Names.{does_channel, channel_packet_of, channel_taking, InChannel, other_role, Laws, Role, Dte, Dce}
use Rattle.x25_handshakes.proofs.HandshakeLemmas.{inner_take_behind, hand_flip, hand_map, live_front, confirm_never}
use Rattle.x25_handshakes.proofs.{HandshakeRelation.{Level, AllInner}, HandshakeSteps.{Any, Answers, acts_inside, leaves, answered}}
use Rattle.x25_handshakes.proofs.{ChannelRelation.{TwoChannels, IsAny}, LayersRelation.{kept_on, on, OnEach, restart_mark, two_layers_level, TwoLayers}}
use Rattle.x25_handshakes.proofs.PeerChannelLemmas.{MayLeave, ChannelNext, two_channel_flip, two_channel_fresh, two_channel_takes, two_channel_does, channel_next}
use Rattle.x25_handshakes.specs.laws.PeerLayer.{PeerChannels, put_peer, peer_fresh, LayerDeed, Restarts, MayDoLayer, does_layer, layer_packet_of, ready_taking}
use Rattle.x25_handshakes.specs.laws.{PeerLayer.{layer_taking}, PeerLayers.{AreElsewhere}, PeerChannel.{ChannelDeed, Clears}}

-- ---- the packets of a channel

pub on-append : (h : ℕ) (L o : List LayerPacket) → on h (L ++ o) ≡ on h L ++ on h o
on-append h [] o = refl
on-append h (On k p ∷ L) o = kept (h == k) p (on h (L ++ o)) (on h L) (on h o) (on-append h L o)
  where
    kept : (c : Bool) (p : Packet) (a b d : List Packet) → a ≡ b ++ d → kept_on c p a ≡ kept_on c p b ++ d
    kept true p a b d e = ap (λ l. p ∷ l) e
    kept false p a b d e = e
on-append h (Restart ∷ L) o = on-append h L o
on-append h (RestartConf ∷ L) o = on-append h L o

on-same : (h : ℕ) (o : List Packet) → on h (addressed h o) ≡ o
on-same h [] = refl
on-same h (p ∷ o) = rw (eq-eqb h h refl) (ap (λ l. p ∷ l) (on-same h o))

on-other : (k h : ℕ) (o : List Packet) → (k == h) ≡ false → on k (addressed h o) ≡ []
on-other k h [] not = refl
on-other k h (p ∷ o) not = rw not (on-other k h o not)

pub inner_addressed : (h : ℕ) (o : List Packet) → AllInner restart_mark (addressed h o)
inner_addressed h [] = tt
inner_addressed h (p ∷ o) = (refl, inner_addressed h o)

-- a step on channel h leaves the others as they are
pub put_kept : {X Y : Type 0} (R : X → List Packet → List Packet → Y → Type 0) (x : ℕ → X) (x₂ : X) (o : List Packet) (L K M : List LayerPacket) (y : ℕ → Y)
    (h : ℕ)
    → ((k : ℕ) → R (x k) (on k L) (on k M) (y k)) → ((k : ℕ) → (k == h) ≡ false → on k M ≡ on k K) → R x₂ (on h L ++ o) (on h K) (y h)
    → (k : ℕ) → R (if k == h then x₂ else x k) (on k (L ++ addressed h o)) (on k K) (y k)
put_kept {X} R x x₂ o L K M y h each others here k = at (k == h) refl
  where
    at : (c : Bool) → (k == h) ≡ c → R (if k == h then x₂ else x k) (on k (L ++ addressed h o)) (on k K) (y k)
    at true is =
        subst (λ j. R (if j == h then x₂ else x j) (on j (L ++ addressed h o)) (on j K) (y j)) (sym (eqb-true k h is))
        (rw (eq-eqb h h refl) (subst (λ l. R x₂ l (on h K) (y h)) (sym (on-append h L (addressed h o) ∙ ap (λ l. on h L ++ l) (on-same h o))) here))
    at false is =
        rw is (subst (λ l. R (x k) l (on k K) (y k)) (sym (on-append k L (addressed h o) ∙ ap (λ l. on k L ++ l) (on-other k h o is) ∙ append-nil (on k L)))
        (subst (λ l. R (x k) (on k L) l (y k)) (others k is) (each k)))

-- the first packet, where it is on this channel
pub on-front : (h : ℕ) (p : Packet) (K : List LayerPacket) → on h (On h p ∷ K) ≡ p ∷ on h K
on-front h p K = rw (eq-eqb h h refl) refl

pub on-past : (k h : ℕ) (p : Packet) (K : List LayerPacket) → (k == h) ≡ false → on k (On h p ∷ K) ≡ on k K
on-past k h p K not = rw not refl

elsewhere_inner : (h : ℕ) (j : List LayerPacket) → AreElsewhere h j → AllInner restart_mark j
elsewhere_inner h [] all = tt
elsewhere_inner h (On k p ∷ j) all = (refl, elsewhere_inner h j all.1)
elsewhere_inner h (Restart ∷ j) all = absurd all.0
elsewhere_inner h (RestartConf ∷ j) all = absurd all.0

elsewhere_none : (h : ℕ) (j : List LayerPacket) → AreElsewhere h j → on h j ≡ []
elsewhere_none h [] all = refl
elsewhere_none h (On k p ∷ j) all = ap (λ b. kept_on b p (on h j)) all.0 ∙ elsewhere_none h j all.1
elsewhere_none h (Restart ∷ j) all = absurd all.0
elsewhere_none h (RestartConf ∷ j) all = absurd all.0

-- ---- a layer

-- what is asked of it as it sends CLEAR
abbrev pub MayLeaveIn : (PeerCall → Type 0) → Side PeerChannels → LayerDeed → Type 0
MayLeaveIn G (Live x) (InChannel h d) = MayLeave G (x h).side d
MayLeaveIn G side d = Unit {0}

-- nothing is asked of any end as it sends CLEAR
may_leave : (y : Side PeerCall) (d : ChannelDeed) → MayLeave IsAny y d
may_leave (Live y) Clears = tt
may_leave y d = tt

pub may_leave_in : (y : Side PeerChannels) (d : LayerDeed) → MayLeaveIn IsAny y d
may_leave_in (Live y) (InChannel h d) = may_leave (y h).side d
may_leave_in y d = tt

-- what it expects
abbrev pub LayerNext : (PeerCall → Type 0) → Role → Side PeerChannels → LayerPacket → Type 0
LayerNext H r (Live x) (On h p) = ChannelNext H r (x h).side p
LayerNext H r (Live x) RestartConf = ⊥
LayerNext H r side p = Unit {0}

-- seen from the other end
pub two_layers_flip : {G H : PeerCall → Type 0} (r : Role) {x : At PeerChannels} {L K : List LayerPacket} {y : At PeerChannels} → TwoLayers G H r x L K y
    → TwoLayers H G (other_role r) y K L x
two_layers_flip {G} {H} r h = record {
  hand = hand_flip
      (hand_map (λ x u v y. OnEach (TwoChannels H G (other_role r)) y v u x) (λ x u v y k. record { each = λ h. two_channel_flip r (k.each h) }) h.hand);
}

-- and back
pub two_layers_back : {G H : PeerCall → Type 0} (r : Role) {x : At PeerChannels} {L K : List LayerPacket} {y : At PeerChannels}
    → TwoLayers H G (other_role r) y K L x → TwoLayers G H r x L K y
two_layers_back Dte h = two_layers_flip Dce h
two_layers_back Dce h = two_layers_flip Dte h

module _ (G H : PeerCall → Type 0) (r : Role) where
  abbrev level : Level PeerChannels PeerChannels LayerPacket
  level = two_layers_level G H r

  pub all_channels_fresh : OnEach (TwoChannels G H r) peer_fresh [] [] peer_fresh
  all_channels_fresh = record { each = λ h. two_channel_fresh G H r }

  -- a step on channel h
  put_at : {x y : PeerChannels} (L K : List LayerPacket) {M : List LayerPacket} (h : ℕ) {z : At PeerCall} (o : List Packet)
      → OnEach (TwoChannels G H r) x L M y → ((k : ℕ) → (k == h) ≡ false → on k M ≡ on k K)
      → TwoChannels G H r z (on h L ++ o) (on h K) (y h) → OnEach (TwoChannels G H r) (put_peer x h z) (L ++ addressed h o) K y
  put_at {x} {y} L K {M} h {z} o all others here = record { each = put_kept (TwoChannels G H r) x z o L K M y h all.each others here }

  taken_at : (x y : PeerChannels) (j : List LayerPacket) (h : ℕ) (p : Packet) (L K : List LayerPacket) → AreElsewhere h j
      → OnEach (TwoChannels G H r) x L (j ++ On h p ∷ K) y
      → (let s = channel_taking r (x h).epoch (x h).side p in OnEach (TwoChannels G H r) (put_peer x h s.next) (L ++ addressed h s.out) (j ++ K) y)
  taken_at x y j h p L K apart all =
      let s = channel_taking r (x h).epoch (x h).side p in
      let none = elsewhere_none h j apart in
      let front = on-append h j (On h p ∷ K) ∙ ap (λ l. l ++ on h (On h p ∷ K)) none ∙ on-front h p K in
      let rest = on-append h j K ∙ ap (λ l. l ++ on h K) none in
      let here : TwoChannels G H r s.next (on h L ++ s.out) (on h K) (y h) =
      two_channel_takes G H r (x h).epoch (x h).side p (on h L) (on h K) (y h) (subst (λ l. TwoChannels G H r (x h) (on h L) l (y h)) front (all.each h)) in
      put_at L (j ++ K) h s.out all
      (λ k not. on-append k j (On h p ∷ K) ∙ ap (λ l. on k j ++ l) (on-past k h p K not) ∙ sym (on-append k j K))
      (subst (λ l. TwoChannels G H r s.next (on h L ++ s.out) l (y h)) (sym rest) here)

  -- the first packet of channel h is taken, before those of other channels in front of it
  pub two_layers_passes : (e : ℕ) (x : PeerChannels) (j : List LayerPacket) (h : ℕ) (p : Packet) (L K : List LayerPacket) (y : At PeerChannels)
      → AreElsewhere h j → TwoLayers G H r (live e x) L (j ++ On h p ∷ K) y
      → (let s = ready_taking r e x (On h p) in TwoLayers G H r s.next (L ++ s.out) (j ++ K) y)
  two_layers_passes e x j h p L K y apart all =
      let s = channel_taking r (x h).epoch (x h).side p in
      record {
        hand = inner_take_behind j (On h p) (addressed h s.out) (elsewhere_inner h j apart) refl (inner_addressed h s.out) x (put_peer x h s.next) K
            (λ w v z c. taken_at x z j h p w v apart c) all.hand;
      }

  answers : (e : ℕ) (x : Side PeerChannels) (p : LayerPacket) → (let s = layer_taking r e x p in Answers level Any e x p (restart_mark p) s.next s.out)
  answers e (Live x) (On h p) = record {
    after = _;
    goes = λ w v z c. record { at = refl; inner = inner_addressed h _; passes = tt; kept = taken_at x z [] h p w v tt c };
  }
  answers e (Live x) Restart = record { confirm = RestartConf; is = refl; at = refl; sent = refl; passes = tt }
  answers e (Live x) RestartConf = tt
  answers e (Left x) Restart = (refl, refl)
  answers e (Left x) p = (refl, refl)

  -- what it makes of the packet in front
  pub two_layers_takes : (e : ℕ) (x : Side PeerChannels) (p : LayerPacket) (L K : List LayerPacket) (y : At PeerChannels)
      → TwoLayers G H r (record { epoch = e; side = x }) L (p ∷ K) y
      → (let s = layer_taking r e x p in TwoLayers G H r s.next (L ++ s.out) K y)
  two_layers_takes e x p L K y h = (answered level Any tt all_channels_fresh (answers e x p) K h).0

  -- what it may do of its own accord
  pub two_layers_does : Laws → (e : ℕ) (x : Side PeerChannels) (d : LayerDeed) → MayDoLayer x d → MayLeaveIn G x d → (L K : List LayerPacket)
      (y : At PeerChannels) → TwoLayers G H r (record { epoch = e; side = x }) L K y
      → TwoLayers G H r (does_layer e x d) (L ++ layer_packet_of x d ∷ []) K y
  two_layers_does laws e (Live x) (InChannel h d) may leave L K y all =
      let p = channel_packet_of (x h).side d in
      let next = does_channel (x h).epoch (x h).side d in
      (acts_inside level Any e x _ _ (record {
        after = put_peer x h next;
        goes = λ w v z c. record {
          at = refl;
          inner = (refl, tt);
          passes = tt;
          kept = put_at w v h (p ∷ []) c (λ k not. refl)
              (two_channel_does G H r laws (x h).epoch (x h).side d may leave (on h w) (on h v) (z h) (c.each h));
        };
      }) L K y all).0
  two_layers_does laws e (Live x) Restarts may leave L K y all = (leaves level Any Restart refl e x tt all)
  two_layers_does laws e (Left x) d may leave L K y all = absurd may

  -- what is in front is expected
  pub layer_next : (e : ℕ) (x : Side PeerChannels) (p : LayerPacket) (L K : List LayerPacket) (y : At PeerChannels)
      → TwoLayers G H r (record { epoch = e; side = x }) L (p ∷ K) y → LayerNext H r x p
  layer_next e (Live x) (On h p) L K y all =
      let m = live_front level (On h p) refl e y.epoch x y.side L K all.hand in
      channel_next G H r (x h).epoch (x h).side p (on h m.0) (on h m.1) (m.2 h)
      (subst (λ l. TwoChannels G H r (x h) (on h m.0) l (m.2 h)) (on-front h p m.1) (m.3.each h))
  layer_next e (Live x) Restart L K y all = tt
  layer_next e (Live x) RestartConf L K y all = absurd (confirm_never RestartConf refl x K all.hand)
  layer_next e (Left x) p L K y all = tt
