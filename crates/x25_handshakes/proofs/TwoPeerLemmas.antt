-- What is kept of any two ends in p4 that keep the rules: every move of either keeps it, and it says the claims.
use Rattle.x25_handshakes.proofs.Names.{◌≡◌, ℕ, ◌+◌, ◌≤◌, List, [], ◌∷◌, ◌++◌, length, refl, sym, ap, ◌∙◌, subst, arith, append-nil, length-append}
use Rattle.x25_handshakes.proofs.Names.{Side, Live, Left, At, Packet, Reset}
use Rattle.x25_handshakes.proofs.Names.{PeerStretch, Terms, false, inl, inr, suc, state_of}
use Rattle.x25_handshakes.specs.laws.PeerClaims.{InEpochs}
use Rattle.x25_handshakes.proofs.{HandshakeRelation.{before, past, Extended, Level, Handshake}, StretchRelation.{pieces, ints, confs, one_if, OneWay, Kept}}
use Rattle.x25_handshakes.proofs.{LineLemmas.{heard_least}}
use Rattle.x25_handshakes.proofs.PeerTransferLemmas.{two_fresh, two_flip, two_does, two_takes, two_skips, front}
use Rattle.x25_handshakes.proofs.TransferRelation.{two_level, TwoTransfers}
use Rattle.x25_handshakes.proofs.{CallsRelation.{TwoTalks}, ChannelRelation.{TwoCalls, two_call_level}, LayersRelation.{two_layers_level, TwoLayers}, JointLemmas.{joint_order}}
use Rattle.x25_handshakes.proofs.Names.{PeerCall, Role, Dte, Dce, fresh_peer, fresh_peer_transfer}
use Rattle.x25_handshakes.specs.laws.{PeerLayer.{PeerChannels, peer_fresh}}
use Rattle.x25_handshakes.proofs.Names.{LayerPacket, fresh_peer_call}
use Rattle.x25_handshakes.specs.laws.{Handshake.{swapped}, TwoLayers.{CallsInOrder, ChannelsInOrder}}
use Rattle.x25_handshakes.specs.laws.TwoPeers.{TwoEnds, Moves, Does, Hears, Skips, IsReached, at_start, near_moves, far_moves, InOrder, BothInOrder}
use Rattle.x25_handshakes.specs.laws.TwoPeers.{KeepOrder, OfAnyTwoPeers}

abbrev Holds : Terms → Terms → TwoEnds → Type 0
Holds t b w = TwoTransfers t b w.near w.out w.back w.far

moves_hold : {t b : Terms} (w v : TwoEnds) → Moves t w v → Holds t b w → Holds t b v
moves_hold w v (Does deed may) h = two_does w.near.epoch deed may h
moves_hold {t} {b} w v (Hears p rest is) h = two_takes w.near.epoch w.near.side p rest (subst (λ K. TwoTransfers t b w.near w.out K w.far) is h)
moves_hold {t} {b} w v (Skips y dropped rest none live is) h =
    let at = subst (λ K. TwoTransfers t b w.near w.out K w.far) is h in
    two_skips w.near.epoch y dropped rest none
    (subst (λ s. TwoTransfers t b (record { epoch = w.near.epoch; side = s }) w.out (dropped ++ Reset ∷ rest) w.far) live at)

reached_hold : {t b : Terms} {w : TwoEnds} → IsReached t b w → Holds t b w
reached_hold {t} {b} at_start = two_fresh t b
reached_hold {t} {b} (near_moves w v reached move) = moves_hold {t = t} {b = b} w v move (reached_hold reached)
reached_hold {t} {b} (far_moves w v reached move) = two_flip (moves_hold {t = b} {b = t} (swapped w) v move (two_flip (reached_hold reached)))

-- ---- a handshake

not_next : {A : Type 0} (a b : ℕ) → a ≡ b → a ≡ suc b → A
not_next a b e f = absurd (omega arith)

not_both : {A : Type 0} (a b : ℕ) → a ≡ suc b → b ≡ suc a → A
not_both a b e f = absurd (omega arith)

module _ {S T P : Type 0} (l : Level S T P) (R : S → T → Type 0) (says : (x : S) (u v : List P) (y : T) → l.related x u v y → R x y) where
  ext_says : (x : Side S) (u v : List P) (y : Side T) → Extended l.gone l.gone_there l.related x u v y → R (state_of x) (state_of y)
  ext_says (Live x) u v (Live y) r = says x u v y r
  ext_says (Left x) u v (Live y) r = says x u r.0 y r.2
  ext_says (Live x) u v (Left y) r = says x r.0 v y r.2
  ext_says (Left x) u v (Left y) r = says x r.0 r.1 y r.2

  -- what the relation says of two states holds of both ends where they are in one epoch
  pub in_epochs : (x : At S) {L K : List P} (y : At T) → Handshake l x.epoch y.epoch x.side y.side L K → InEpochs R l.fresh l.fresh_there x y
  in_epochs x {L} {K} y (inl same) = record {
    same = λ e. ext_says x.side (before l.mark L) (before l.mark K) y.side same.inner;
    near_ahead = λ e. not_next x.epoch y.epoch same.epochs e;
    peer_ahead = λ e. not_next y.epoch x.epoch (sym same.epochs) e;
    apart = inl same.epochs;
  }
  in_epochs x {L} y (inr (inl ahead)) = record {
    same = λ e. not_next x.epoch y.epoch e ahead.epochs;
    near_ahead = λ e. (ext_says x.side (before l.mark (past l.mark L)) [] (Live l.fresh_there) ahead.inner, ahead.waits);
    peer_ahead = λ e. not_both x.epoch y.epoch ahead.epochs e;
    apart = inr (inl ahead.epochs);
  }
  in_epochs x {K} y (inr (inr later)) = record {
    same = λ e. not_next y.epoch x.epoch (sym e) later.epochs;
    near_ahead = λ e. not_both x.epoch y.epoch e later.epochs;
    peer_ahead = λ e. (ext_says (Live l.fresh) [] (before l.mark (past l.mark K)) y.side later.inner, later.waits);
    apart = inr (inr later.epochs);
  }

-- ---- what that says

-- as many were taken as were sent, so all
none_left : {M : Type 0} (ys : List M) → length ys ≡ 0 → ys ≡ []
none_left [] e = refl
none_left (y ∷ ys) e = absurd (omega (arith, e))

all_taken : {M : Type 0} (sent taken rest : List M) → sent ≡ taken ++ rest → length sent ≤ length taken → taken ≡ sent
all_taken sent taken rest flow le =
    let n : length sent ≡ length taken + length rest = ap length flow ∙ length-append taken rest in
    sym (flow ∙ ap (λ l. taken ++ l) (none_left rest (omega (arith, n, le))) ∙ append-nil taken)

in_order : {t : Terms} {x : PeerStretch} {u v : List Packet} {y : PeerStretch} → OneWay t x u v y → InOrder x y
in_order {x} {u} {v} {y} h =
    let low : x.acked ≤ length y.taken = omega (arith, h.acks.acks, h.acks.late, heard_least x.acked v) in
    record {
      begins = (pieces u, sym h.line.flow);
      acked = low;
      all = λ e. all_taken x.sent y.taken (pieces u) h.line.flow (omega (arith, e, low));
      interrupts = (ints u, sym h.ints.flow);
      all_interrupts = λ none. (
          let count : one_if false ≡ (length (ints u) + confs v) + y.owed =
          subst (λ o. one_if o ≡ (length (ints u) + confs v) + y.owed) none h.ints.count in
          sym (h.ints.flow ∙ ap (λ l. y.int_up ++ l) (none_left (ints u) (omega (arith, count))) ∙ append-nil y.int_up));
    }

pub both_in_order : (t b : Terms) (x : PeerStretch) (u v : List Packet) (y : PeerStretch) → Kept t b x u v y → BothInOrder x y
both_in_order t b x u v y h = (in_order h.there, in_order h.back)

abbrev pub TwoOrder : At PeerStretch → At PeerStretch → Type 0
TwoOrder x y = InEpochs BothInOrder fresh_peer fresh_peer x y

transfers_order : {t b : Terms} {x : At PeerStretch} {L K : List Packet} {y : At PeerStretch} → TwoTransfers t b x L K y → TwoOrder x y
transfers_order {t} {b} {x} {y} h = in_epochs (two_level t b) BothInOrder (both_in_order t b) x y h.hand.hand

-- before p4: any terms do
fresh_order : TwoOrder fresh_peer_transfer fresh_peer_transfer
fresh_order = (let t : Terms = record { window = 0; size = 0; longest = 0 } in transfers_order (two_fresh t t))

-- between two clears
pub two_calls_order : (r : Role) (x : PeerCall) (u v : List Packet) (y : PeerCall) → TwoCalls r x u v y
    → CallsInOrder x y
two_calls_order Dte x u v y h =
    let o = joint_order TwoTalks fresh_peer_transfer fresh_peer_transfer TwoOrder fresh_order
    (λ t b x u v t₂ b₂ y k. transfers_order k.related) x.stage y.stage x.made x.indicated y.made y.indicated u v h in
    record { up = o.0; there = o.1; stretches = o.2 }
two_calls_order Dce x u v y h =
    let o = joint_order TwoTalks fresh_peer_transfer fresh_peer_transfer (λ b a. TwoOrder a b) fresh_order
    (λ t b y u v t₂ b₂ x k. transfers_order (two_flip k.related)) y.stage x.stage y.made y.indicated x.made x.indicated v u h in
    record { up = o.1; there = o.0; stretches = o.2 }

-- over CLEARs and RESTARTs
abbrev pub ChannelsOrder : At PeerCall → At PeerCall → Type 0
ChannelsOrder x y = InEpochs CallsInOrder fresh_peer_call fresh_peer_call x y

pub two_layers_order : (G H : PeerCall → Type 0) (r : Role) {x : At PeerChannels} {L K : List LayerPacket} {y : At PeerChannels} → TwoLayers G H r x L K y
    → InEpochs ChannelsInOrder peer_fresh peer_fresh x y
two_layers_order G H r {x} {L} {K} {y} all =
    in_epochs (two_layers_level G H r) ChannelsInOrder
    (λ x u v y k h. in_epochs (two_call_level G H r) CallsInOrder (two_calls_order r) (x h) (y h) (k.each h).hand) x y all.hand

pub keep_order : OfAnyTwoPeers KeepOrder
keep_order t b w reached =
    let h : Holds t b w = reached_hold reached in
    record {
      order = transfers_order h;
      near_expects = front w.near w.back h;
      far_expects = front w.far w.out (two_flip h);
    }
