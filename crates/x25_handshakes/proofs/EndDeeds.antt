-- The deeds of an end on a channel and in a layer, of which CLEAR in p1 is none, as our own never does it; and a step of an end, which keeps what each
-- deed and each packet taken keeps.
use Rattle.x25_handshakes.proofs.Names.{◌≡◌, ℕ, List, [], ◌∷◌, ◌++◌, Bool, true, false, if◌then◌else◌, ◌==◌, refl, sym, ap, ◌∙◌, subst, eq-eqb, eqb-true}
use Rattle.x25_handshakes.proofs.Names.{At, live, Packet, LayerPacket, On, addressed, Role, PeerCall, InChannel, does_channel, channel_packet_of}
use Rattle.std.proofs.Math.Path.{fun_ext}
use Rattle.x25_handshakes.proofs.{ChannelRelation.{IsCalled}, DeedLemmas.{Deeds, Did, Nothing, Something, Heard, acts_keep, heard_keeps}}
use Rattle.x25_handshakes.proofs.{PeerChannelLemmas.{MayLeave}, PeerLayerLemmas.{MayLeaveIn}}
use Rattle.x25_handshakes.specs.laws.PeerChannel.{ChannelDeed, MayDoChannel}
use Rattle.x25_handshakes.specs.laws.PeerLayer.{PeerChannels, put_peer, LayerDeed, MayDoLayer, does_layer, layer_packet_of, layer_taking}

abbrev pub channel_deeds : Deeds (At PeerCall) ChannelDeed Packet
channel_deeds = record {
  may = λ y d. MayDoChannel y.side d × MayLeave IsCalled y.side d;
  does = λ y d. does_channel y.epoch y.side d;
  packet = λ y d. channel_packet_of y.side d;
}

abbrev pub layer_deeds : Deeds (At PeerChannels) LayerDeed LayerPacket
layer_deeds = record {
  may = λ y d. MayDoLayer y.side d × MayLeaveIn IsCalled y.side d;
  does = λ y d. does_layer y.epoch y.side d;
  packet = λ y d. layer_packet_of y.side d;
}

-- ---- on a channel

-- as it stood
put_self : (e : ℕ) (x : PeerChannels) (h : ℕ) → live e (put_peer x h (x h)) ≡ live e x
put_self e x h = ap (λ f. live e f) (fun_ext (λ k. by k (k == h) refl))
  where
    by : (k : ℕ) (b : Bool) → (k == h) ≡ b → (if b then x h else x k) ≡ x k
    by k true at = ap (λ j. x j) (sym (eqb-true k h at))
    by k false at = refl

addressed-append : (h : ℕ) (o q : List Packet) → addressed h o ++ addressed h q ≡ addressed h (o ++ q)
addressed-append h [] q = refl
addressed-append h (p ∷ o) q = ap (λ l. On h p ∷ l) (addressed-append h o q)

-- what is put at a place is there
there : {A : Type 0} (h : ℕ) (z w : A) → (if h == h then z else w) ≡ z
there h z w = rw (eq-eqb h h refl) refl

did_on : (e : ℕ) (x : PeerChannels) (h : ℕ) {z c : At PeerCall} {o : List Packet} → Did channel_deeds z c o
    → Did layer_deeds (live e (put_peer x h z)) (live e (put_peer x h c)) (addressed h o)
did_on e x h (Nothing same none) = Nothing (ap (λ w. live e (put_peer x h w)) same) (ap (addressed h) none)
did_on e x h {z} {c} (Something d may next out) =
    let y = put_peer x h z in
    let at = there h z (x h) in
    Something (InChannel h d) (rw at may.0, rw at may.1)
    (twice y at ∙ ap (λ w. live e (put_peer x h w)) next)
    (ap (λ w. On h (channel_packet_of w.side d) ∷ []) at ∙ ap (addressed h) out)
  where
    twice : (y : PeerChannels) → y h ≡ z → live e (put_peer (put_peer x h z) h (does_channel (y h).epoch (y h).side d))
        ≡ live e (put_peer x h (does_channel z.epoch z.side d))
    twice y at =
        ap (λ w. live e (put_peer (put_peer x h z) h (does_channel w.epoch w.side d))) at
        ∙ ap (λ f. live e f) (fun_ext (λ k. by k (k == h)))
      where
        by : (k : ℕ) (b : Bool) → (if b then does_channel z.epoch z.side d else (if b then z else x k))
            ≡ (if b then does_channel z.epoch z.side d else x k)
        by k true = refl
        by k false = refl

-- what it took on the channel, it took in its layer, and so of what it did behind that
pub heard_on : (e : ℕ) (x : PeerChannels) (h : ℕ) {z : At PeerCall} {first : List Packet} {c : At PeerCall} {o : List Packet} → Heard channel_deeds z first c o
    → Heard layer_deeds (live e (put_peer x h z)) (addressed h first) (live e (put_peer x h c)) (addressed h o)
heard_on e x h {first} g = record {
  rest = addressed h g.rest;
  split = addressed-append h first g.rest ∙ ap (addressed h) g.split;
  did = did_on e x h g.did;
}

pub acted_on : (e : ℕ) (x : PeerChannels) (h : ℕ) {c : At PeerCall} {o : List Packet} → Heard channel_deeds (x h) [] c o
    → Heard layer_deeds (live e x) [] (live e (put_peer x h c)) (addressed h o)
acted_on e x h {c} {o} g = subst (λ y. Heard layer_deeds y [] (live e (put_peer x h c)) (addressed h o)) (put_self e x h) (heard_on e x h g)

-- ---- a step

-- An end that is y, with these packets on the way to it, went on: it is `end` then, sent `o`, and these are left on the way. It did nothing or one thing;
-- or it took the packet in front, and then did nothing or one thing.
pub data Went (r : Role) (y : At PeerChannels) (back : List LayerPacket) (end : At PeerChannels) (o left : List LayerPacket) : Type 0 where
  Acted : left ≡ back → Heard layer_deeds y [] end o → Went r y back end o left
  Took : (p : LayerPacket) → back ≡ p ∷ left → (let s = layer_taking r y.epoch y.side p in Heard layer_deeds s.next s.out end o) → Went r y back end o left

pub went_keeps : {r : Role} {y : At PeerChannels} {back : List LayerPacket} {end : At PeerChannels} {o left : List LayerPacket}
    (R : At PeerChannels → List LayerPacket → List LayerPacket → Type 0)
    → ((z : At PeerChannels) (d : LayerDeed) (u v : List LayerPacket) → MayDoLayer z.side d × MayLeaveIn IsCalled z.side d → R z u v
    → R (does_layer z.epoch z.side d) (u ++ layer_packet_of z.side d ∷ []) v)
    → ((p : LayerPacket) (u v : List LayerPacket) → R y u (p ∷ v) → (let s = layer_taking r y.epoch y.side p in R s.next (u ++ s.out) v))
    → Went r y back end o left → (u : List LayerPacket) → R y u back → R end (u ++ o) left
went_keeps {back} {end} {o} R deeds takes (Acted same heard) u h =
    subst (λ v. R end (u ++ o) v) (sym same) (acts_keep (λ z w. R z w back) (λ z d w may k. deeds z d w back may k) heard u h)
went_keeps {y} {left} R deeds takes (Took p front heard) u h =
    heard_keeps (λ z w. R z w left) (λ z d w may k. deeds z d w left may k) heard u (takes p u left (subst (λ v. R y u v) front h))
