-- Our layer and any peer are two ends that keep the rules, in each run; and what that says.
use Rattle.x25_layer.proofs.Names.{◌≡◌, ◌⊎◌, inl, inr, ℕ, List, [], ◌∷◌, ◌++◌, Bool, false, refl, sym, ap, subst, ◌∙◌, length, append-nil, Role, Piece}
use Rattle.x25_layer.proofs.Names.{PlainPacket, restart, restart_conf, channel_of, HasChannel, At, Live, left, live, LayerPacket, On, Ranges, LayerSettings}
use Rattle.x25_layer.proofs.Names.{carried, bare, bare_layer, bare_layers, Name, Lists, IsPrefix, under, calls_in, messages_in, interrupts_in, TwoLayers, moves_in}
use Rattle.x25_layer.proofs.Names.{settings_of, name_of}
use Rattle.x25_handshakes.proofs.{ChannelRelation.{IsAny}, EndDeeds.{went_keeps}, LayersRelation.{TwoLayers as Kept}, Meetings.{both_open}}
use Rattle.x25_handshakes.proofs.{PeerLayerLemmas.{layer_next}, TwoLayerRuns.{reached_hold}, TwoPeerLemmas.{two_layers_order}}
use Rattle.x25_handshakes.specs.laws.{PeerLayer.{PeerChannels, peer_fresh, Restarts, ready_taking}, PeerLayers.{other_role}, TwoPeers.{BothInOrder}}
use Rattle.x25_layer.proofs.{EndLemmas.{Stands, Moved, bare_more, end_moves}, Ends.{Known}, FirstLemmas.{restart_is_quiet}}
use Rattle.x25_layer.proofs.HistoryLemmas.{prefix_more}
use Rattle.x25_layer.proofs.OrderLemmas.{Order, name_shown, OpenHere, open_here, messages_up, messages_down, interrupts_both, carried_begin, all_taken}
use Rattle.x25_layer.specs.laws.PeerClaims.{WithAnyPeer, peer_call, peer_stretch, peer_name, of_call, IsAllInOrder, FindsNoError, AllHaveArrived}
use Rattle.x25_layer.specs.laws.PeerClaims.{StretchIsInOrder, CallIsInOrder, LayersAreEnds}
use Rattle.x25_layer.specs.laws.PeerJoined.{Does, Hears, HearsChannel, Happens, Ours, Theirs, IsReached, at_start, goes_on, PeerJoined, start, our_end, with_peer}
use Rattle.x25_layer.specs.laws.PeerJoined.{AreConfigured, PeerMoves}
use Rattle.x25_handshakes.specs.laws.TwoLayers as two

-- what was reached, on these lines
abbrev Beside : Role → At PeerChannels → List LayerPacket → List LayerPacket → At PeerChannels → Type 0
Beside r x u v y = two.IsReached r (record { near = x; far = y; out = u; back = v })

record Joined (r : Role) (channels : Ranges) (w : PeerJoined) : Type 0 where
  end : At PeerChannels
  rest : ℕ → List Piece
  reached : Beside r end (bare_layers channels.message w.out) (bare_layers channels.message w.back) w.peer
  configured : AreConfigured channels w.back
  stands : Stands channels w.near (Live end) rest

configured_more : (channels : Ranges) (L o : List PlainPacket) → AreConfigured channels L → AreConfigured channels o → AreConfigured channels (L ++ o)
configured_more channels [] o p q = q
configured_more channels (x ∷ L) o p q = (p.0, configured_more channels L o p.1 q)

module _ (known : Known) (r : Role) (long_data : Bool) (channels : Ranges) where
  abbrev c : LayerSettings
  c = settings_of r long_data channels

  -- what is kept of the two
  kept : {x : At PeerChannels} {u v : List LayerPacket} {y : At PeerChannels} → Beside r x u v y → Kept IsAny IsAny r x u v y
  kept h = reached_hold known.laws r h

  -- our end goes on
  ours : (w : PeerJoined) (v : TwoLayers) (h : Joined r channels w) → Moved r channels (our_end w) v h.end h.rest
      → Joined r channels (with_peer w.peer v)
  ours w v h m = record {
    end = m.end;
    rest = m.waiting;
    reached = subst (λ l. Beside r m.end l (bare_layers channels.message v.back) w.peer)
        (sym (bare_more channels.message w.out m.put) ∙ ap (bare_layers channels.message) (sym m.out))
        (went_keeps (λ x u t. Beside r x u t w.peer) (λ x d u t may k. two.near_moves _ _ k (two.Does d may.0))
        (λ p u t k. two.near_moves _ _ k (two.Hears p t refl)) m.went (bare_layers channels.message w.out) h.reached);
    configured = tail m.back;
    stands = m.stands;
  }
    where
      tail : ((v.back ≡ w.back) ⊎ ((p : PlainPacket) × (w.back ≡ p ∷ v.back))) → AreConfigured channels v.back
      tail (inl same) = subst (λ (l : List PlainPacket). AreConfigured channels l) (sym same) h.configured
      tail (inr front) = (subst (λ (l : List PlainPacket). AreConfigured channels l) front.1 h.configured).1

  -- the peer has gone to this, and put these packets
  theirs : (w : PeerJoined) (h : Joined r channels w) (y : At PeerChannels) (out packets : List PlainPacket) (o : List LayerPacket)
      → bare_layers channels.message packets ≡ o → AreConfigured channels packets
      → Beside r h.end (bare_layers channels.message out) (bare_layers channels.message w.back ++ o) y
      → Joined r channels (record { near = w.near; peer = y; out = out; back = w.back ++ packets })
  theirs w h y out packets o put is reached = record {
    end = h.end;
    rest = h.rest;
    reached = subst (λ l. Beside r h.end (bare_layers channels.message out) l y)
        (ap (λ l. bare_layers channels.message w.back ++ l) (sym put) ∙ sym (bare_more channels.message w.back packets)) reached;
    configured = configured_more channels w.back packets h.configured is;
    stands = h.stands;
  }

  bare_on : (q : PlainPacket) → HasChannel q → bare_layer channels.message q ≡ On (channel_of q) (bare channels.message q)
  bare_on (restart cause diagnostic) has = absurd has
  bare_on restart_conf has = absurd has
  bare_on other has = refl

  peer_moves : (w : PeerJoined) (h : Joined r channels w) {y : At PeerChannels} {out packets : List PlainPacket}
      → PeerMoves r channels w.peer w.out y out packets
      → Joined r channels (record w { peer = y; out = out; back = w.back ++ packets })
  peer_moves w h (Does deed packet may is at) =
      theirs w h _ w.out (packet ∷ []) _ (ap (λ q. q ∷ []) is) (at, tt) (two.far_moves _ _ h.reached (two.Does deed may))
  peer_moves w h (Hears packet rest packets front answers) =
      theirs w h _ rest packets _ answers.are answers.configured
      (two.far_moves _ _ h.reached (two.Hears (bare_layer channels.message packet) (bare_layers channels.message rest)
      (ap (bare_layers channels.message) front)))
  peer_moves w h (HearsChannel y passed packet rest packets live has apart front answers) =
      let k : ℕ = channel_of packet in
      let line : bare_layers channels.message w.out ≡ bare_layers channels.message passed
      ++ On k (bare channels.message packet) ∷ bare_layers channels.message rest =
      ap (bare_layers channels.message) front ∙ bare_more channels.message passed (packet ∷ rest)
      ∙ ap (λ q. bare_layers channels.message passed ++ q ∷ bare_layers channels.message rest) (bare_on packet has) in
      let s = ready_taking (other_role r) w.peer.epoch y (On k (bare channels.message packet)) in
      theirs w h s.next (passed ++ rest) packets s.out answers.are answers.configured
      (subst (λ l. Beside r h.end l (bare_layers channels.message w.back ++ s.out) s.next) (sym (bare_more channels.message passed rest))
      (two.far_moves _ _ h.reached (two.HearsChannel y k (bare_layers channels.message passed) (bare channels.message packet)
      (bare_layers channels.message rest) live apart line)))

  happens : (w v : PeerJoined) → Happens r long_data channels w v → Joined r channels w → Joined r channels v
  happens w v (Ours move stays) h =
      subst (λ (b : Bool). Joined r channels (with_peer w.peer (moves_in c (our_end w) b move))) (sym h.stands.at.0)
      (ours w (moves_in c (our_end w) false move) h
      (end_moves IsAny known r long_data channels (our_end w) h.end h.rest h.stands h.configured
      (λ p K front. layer_next IsAny IsAny r h.end.epoch h.end.side (bare_layer channels.message p) (bare_layers channels.message w.out)
      (bare_layers channels.message K) w.peer
      (subst (λ l. Kept IsAny IsAny r h.end (bare_layers channels.message w.out) l w.peer) (ap (bare_layers channels.message) front) (kept h.reached)))
      move stays))
  happens w v (Theirs y out packets moves) h = peer_moves w h moves

  begins : Joined r channels (start r long_data channels)
  begins = record {
    end = left 0 peer_fresh;
    rest = λ k. [];
    reached = two.near_moves _ _ two.at_start (two.Does Restarts tt);
    configured = tt;
    stands = record {
      at = (refl, record { restarting = refl; restarts = refl; circuits = λ k. refl });
      quiet = record { given = restart_is_quiet r channels; told = tt };
      of_messages = record { held = λ k. refl; later = λ k m earlier. refl };
      of_interrupts = record { held = λ k. refl; later = λ k m earlier. refl };
      of_calls = record { held = λ k. refl; later = λ k m earlier. refl };
    };
  }

  joined : (w : PeerJoined) → IsReached r long_data channels w → Joined r channels w
  joined w at_start = begins
  joined w (goes_on v u h event) = happens v w event (joined v h)

-- ---- what that says

module _ (channels : Ranges) (r : Role) (w : PeerJoined) (h : Joined r channels w) (o : Order h.end w.peer) (k : ℕ) where
  here : name_of w.near.layer k ≡ peer_name h.end k
  here = name_shown channels.message w.near.layer h.end h.rest k h.stands.at.1

  call_there : of_call (name_of w.near.layer k) ≡ of_call (peer_name w.peer k) → two.CallsInOrder (peer_call h.end k) (peer_call w.peer k)
  call_there same =
      let names : of_call (peer_name h.end k) ≡ of_call (peer_name w.peer k) = ap of_call (sym here) ∙ same in
      (o.same (ap (λ (n : Name). n.restarts) names) k).same (ap (λ (n : Name). n.clears) names)

  calls_order : of_call (name_of w.near.layer k) ≡ of_call (peer_name w.peer k) → CallIsInOrder k (name_of w.near.layer k) w.near.entries (peer_call w.peer k)
  calls_order same =
      let both = call_there same in
      let held : calls_in (under k (of_call (name_of w.near.layer k)) w.near.entries)
      ≡ record { down = (peer_call h.end k).made; up = (peer_call h.end k).indicated } =
      ap (λ (n : Name). calls_in (under k (of_call n) w.near.entries)) here ∙ h.stands.of_calls.held k in
      record {
        up = subst (λ (l : Lists _). IsPrefix l.up (peer_call w.peer k).made) (sym held) both.up;
        there = subst (λ (l : Lists _). IsPrefix (peer_call w.peer k).indicated l.down) (sym held) both.there;
      }

  stretch_order : name_of w.near.layer k ≡ peer_name w.peer k
      → StretchIsInOrder k (name_of w.near.layer k) w.near.entries (w.near.layer.circuits k) (peer_stretch w.peer k)
  stretch_order same =
      let both : BothInOrder (peer_stretch h.end k) (peer_stretch w.peer k) =
      (call_there (ap of_call same)).stretches.same (ap (λ (n : Name). n.resets) (sym here ∙ same)) in
      let m = ap (λ (n : Name). messages_in (under k n w.near.entries)) here ∙ h.stands.of_messages.held k in
      let i : interrupts_in (under k (name_of w.near.layer k) w.near.entries)
      ≡ record { down = (peer_stretch h.end k).int_down; up = (peer_stretch h.end k).int_up } =
      ap (λ (n : Name). interrupts_in (under k n w.near.entries)) here ∙ h.stands.of_interrupts.held k ∙ interrupts_both h.end h.rest k in
      let up : (messages_in (under k (name_of w.near.layer k) w.near.entries)).up ≡ carried (peer_stretch h.end k).taken =
      ap (λ (l : Lists _). l.up) m ∙ messages_up h.end h.rest k in
      let down = messages_down h.end h.rest k in
      record {
        up = subst (λ (l : List _). IsPrefix l (carried (peer_stretch w.peer k).sent)) (sym up)
            (carried_begin (peer_stretch h.end k).taken (peer_stretch w.peer k).sent both.1.begins);
        there = subst (λ (l : Lists _). IsPrefix (carried (peer_stretch w.peer k).taken) l.down) (sym m)
            (prefix_more (carried (peer_stretch w.peer k).taken) (carried (peer_stretch h.end k).sent) down.0 down.1
            (carried_begin (peer_stretch w.peer k).taken (peer_stretch h.end k).sent both.0.begins));
        all = λ e. up ∙ ap carried (both.1.all e);
        all_there = λ is none acked. (
            let shown = (open_here channels.message w.near.layer h.end h.rest k h.stands.at.1 is).shown in
            ap carried (both.0.all (sym (ap (λ (t : _). t.acked) shown.talk) ∙ acked ∙ ap (λ (t : _). length t.sent) shown.talk))
            ∙ ap carried (sym (append-nil (peer_stretch h.end k).sent))
            ∙ ap (λ (ps : List Piece). carried ((peer_stretch h.end k).sent ++ ps)) (sym (sym (ap (λ (t : _). t.rest) shown.talk) ∙ none))
            ∙ sym (ap (λ (l : Lists _). l.down) (m ∙ shown.messages)));
        int_up = subst (λ (l : Lists (List ℕ)). IsPrefix l.up (peer_stretch w.peer k).int_down) (sym i) both.1.interrupts;
        int_there = subst (λ (l : Lists (List ℕ)). IsPrefix (peer_stretch w.peer k).int_up l.down) (sym i) both.0.interrupts;
      }

order_of : (known : Known) (r : Role) (channels : Ranges) (long_data : Bool) (w : PeerJoined) (h : Joined r channels w) → Order h.end w.peer
order_of known r channels long_data w h = two_layers_order IsAny IsAny r (kept known r long_data channels h.reached)

pub all_in_order : Known → WithAnyPeer IsAllInOrder
all_in_order known r long_data channels w reached k =
    let h = joined known r long_data channels w reached in
    let o = order_of known r channels long_data w h in
    record { calls = calls_order channels r w h o k; stretch = stretch_order channels r w h o k }

pub finds_no_error : Known → WithAnyPeer FindsNoError
finds_no_error known r long_data channels w reached = (joined known r long_data channels w reached).stands.quiet

pub all_have_arrived : Known → WithAnyPeer AllHaveArrived
all_have_arrived known r long_data channels w reached none k is there =
    let h = joined known r long_data channels w reached in
    let o : OpenHere w.near.layer h.end h.rest k = open_here channels.message w.near.layer h.end h.rest k h.stands.at.1 is in
    let rel = subst (λ l. Kept IsAny IsAny r h.end l (bare_layers channels.message w.back) w.peer) (ap (bare_layers channels.message) none)
    (kept known r long_data channels h.reached) in
    let a = all_taken channels.message w.near.layer h.end h.rest w.peer w.near.entries k _ h.stands.at.1 h.stands.of_messages h.stands.of_interrupts
    (both_open IsAny IsAny r k h.end (bare_layers channels.message w.back) w.peer rel o.there there) is in
    record { name = a.name; messages = a.messages; interrupts = a.interrupts }

pub layers_are_ends : Known → LayersAreEnds
layers_are_ends known r long_data channels w reached =
    let h = joined known r long_data channels w reached in
    record {
      end = h.end;
      reached = h.reached;
      names = λ k. name_shown channels.message w.near.layer h.end h.rest k h.stands.at.1;
      messages = λ k. ap (λ (l : Lists _). l.up) (h.stands.of_messages.held k) ∙ messages_up h.end h.rest k;
      interrupts = λ k. h.stands.of_interrupts.held k ∙ interrupts_both h.end h.rest k;
      calls = λ k. h.stands.of_calls.held k;
    }
