-- What is acknowledged to an end the other one has handed up.
use Rattle.x25_layer.proofs.Names.{◌≡◌, ◌⊎◌, inl, inr, ℕ, ◌+◌, List, [], length, Bool, true, refl, sym, ap, subst, ◌∙◌, arith, length-append, Role, Talk}
use Rattle.x25_layer.proofs.Names.{is_open, Side, Live, Left, At, state_of, Piece, LayerPacket, Name, IsEarlier, Lists, IsPrefix, Ranges, bare_layers, take, carried}
use Rattle.x25_layer.proofs.Names.{drop, under, messages_in, name_of, End, TwoLayers, Always, AcknowledgedAreHandedUp}
use Rattle.std.proofs.lemmas.List.{take-append-drop, take-append-le}
use Rattle.x25_handshakes.proofs.{ChannelRelation.{IsCalled}, TwoPeerLemmas.{two_layers_order}}
use Rattle.x25_handshakes.specs.laws.{PeerLayer.{PeerChannels}, PeerStretch.{PeerStretch, fresh_peer}}
use Rattle.x25_layer.proofs.{EndLemmas.{Stands}, Ends.{talk_of, Known}, HistoryLemmas.{prefix_more}}
use Rattle.x25_layer.proofs.OrderLemmas.{Order, name_shown, OpenHere, open_here, open_live, StretchBeside, stretch_beside, messages_up, carried_begin, out_shut}
use Rattle.x25_layer.proofs.{RunLemmas.{EndsRelated, ends_some, Run, run_turned, in_run}}
use Rattle.x25_layer.specs.laws.{Acknowledged.{AcknowledgedAreUp}, PeerClaims.{peer_stretch, peer_name}}

of_end : (r : Role) (channels : Ranges) (e f : End) (s u : Side (At PeerChannels)) (rest away : ℕ → List Piece) (k : ℕ) (L K : List LayerPacket)
    → Stands channels e s rest → Stands channels f u away → EndsRelated r s L K u → is_open (e.layer.circuits k) ≡ true
    → AcknowledgedAreUp k (name_of e.layer k) (e.layer.circuits k).talk e f
of_end r channels e f (Left y) u rest away k L K h there related is = absurd (out_shut e.layer k h.at.1 is)
of_end r channels e f (Live y) u rest away k L K h there related is =
    let z : At PeerChannels = state_of u in
    let x : PeerStretch = peer_stretch y k in
    let o : OpenHere e.layer y rest k = open_here channels.message e.layer y rest k h.at.1 is in
    let live = open_live y k o.there in
    let order : Order y z = two_layers_order IsCalled IsCalled r (ends_some r y L K u related).1 in
    let b : StretchBeside y z k = stretch_beside y z k order live.0 live.1 in
    let low = b.order.0.acked in
    let all : length b.other.taken + length b.order.0.begins.0 ≡ length x.sent =
    sym (length-append b.other.taken b.order.0.begins.0) ∙ ap length b.order.0.begins.1 in
    let few : take x.acked x.sent ≡ take x.acked b.other.taken =
    ap (take x.acked) (sym b.order.0.begins.1) ∙ take-append-le x.acked b.other.taken b.order.0.begins.0 low in
    let first : IsPrefix (carried (take x.acked x.sent)) (carried b.other.taken) =
    subst (λ ps. IsPrefix (carried ps) (carried b.other.taken)) (sym few)
    (carried_begin (take x.acked b.other.taken) b.other.taken (drop x.acked b.other.taken, take-append-drop x.acked b.other.taken)) in
    subst (λ (t : Talk). AcknowledgedAreUp k (name_of e.layer k) t e f) (sym o.shown.talk)
    (subst (λ (m : Name). AcknowledgedAreUp k m (talk_of x (rest k)) e f) (sym (name_shown channels.message e.layer y rest k h.at.1))
    (record {
      sent = omega (arith, low, all);
      down = ap (λ (l : Lists _). l.down) (h.of_messages.held k ∙ o.shown.messages);
      first = by b.other b.at first;
    }))
  where
    by : (q : PeerStretch) → ((peer_name y k ≡ peer_name (state_of u) k) × (q ≡ peer_stretch (state_of u) k))
        ⊎ (IsEarlier (peer_name (state_of u) k) (peer_name y k) × (q ≡ fresh_peer))
        → IsPrefix (carried (take (peer_stretch y k).acked (peer_stretch y k).sent)) (carried q.taken)
        → IsPrefix (carried (take (peer_stretch y k).acked (peer_stretch y k).sent)) (messages_in (under k (peer_name y k) f.entries)).up
    by q (inl here) first =
        subst (λ (n : Name). IsPrefix (carried (take (peer_stretch y k).acked (peer_stretch y k).sent)) (messages_in (under k n f.entries)).up) (sym here.0)
        (subst (λ u. IsPrefix (carried (take (peer_stretch y k).acked (peer_stretch y k).sent)) u)
        (ap (λ (q : PeerStretch). carried q.taken) here.1 ∙ sym (messages_up (state_of u) away k) ∙ sym (ap (λ (l : Lists _). l.up) (there.of_messages.held k)))
        first)
    by q (inr ahead) first =
        let none : IsPrefix (carried (take (peer_stretch y k).acked (peer_stretch y k).sent)) [] =
        subst (λ (q : PeerStretch). IsPrefix (carried (take (peer_stretch y k).acked (peer_stretch y k).sent)) (carried q.taken)) ahead.1 first in
        prefix_more (carried (take (peer_stretch y k).acked (peer_stretch y k).sent)) [] (messages_in (under k (peer_name y k) f.entries)).up refl none

acknowledged : {r : Role} {channels : Ranges} {w : TwoLayers} → Run r channels w → (k : ℕ) → is_open (w.near.layer.circuits k) ≡ true
    → AcknowledgedAreUp k (name_of w.near.layer k) (w.near.layer.circuits k).talk w.near w.far
acknowledged {r} {channels} {w} h k is = of_end r channels w.near w.far h.near h.far h.rest h.away k (bare_layers channels.message w.out)
    (bare_layers channels.message w.back) h.stands h.there h.related is

pub always_acknowledged : Known → (long_data : Bool) (channels : Ranges) → Always AcknowledgedAreHandedUp long_data channels
always_acknowledged known long_data channels es =
    let h = in_run known long_data channels es in
    record { near = acknowledged h; far = acknowledged (run_turned h) }
