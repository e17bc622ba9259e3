-- Two ends with nothing on the way to the second: where a stretch is open at both they are in the same one, and what that says; and where nothing is on
-- the way at all, a stretch that is open at the one is open at the other.
use Rattle.x25_handshakes.proofs.Names.{◌≡◌, inl, inr, ℕ, List, [], true, false, sym, ap, true≢false, CallRequest, Role, Dte, Dce, Side, Live}
use Rattle.x25_handshakes.proofs.Names.{Left, At, state_of, Packet, Stage, Waiting, Crossed, Talking, PeerStretch, PeerCall, LayerPacket, Terms}
use Rattle.std.proofs.Common.{not, refl}
use Rattle.x25_handshakes.proofs.{CallsRelation.{TwoTalks, TwoJoint}, ChannelRelation.{clear_mark, TwoCalls, two_call_level, TwoChannels}}
use Rattle.x25_handshakes.proofs.{HandshakeRelation.{before, Level, Handshake}, LayersRelation.{restart_mark, on, two_layers_level, TwoLayers}}
use Rattle.x25_handshakes.proofs.{PeerCallLemmas.{TwoTalks-flip}, StretchRelation.{Kept}, TransferRelation.{reset_mark, two_level}}
use Rattle.x25_handshakes.specs.laws.{Handshake.{has_left}, PeerClaims.{peer_transfer_of, is_open_stage, is_open_call, is_open_there}}
use Rattle.x25_handshakes.specs.laws.PeerLayer.{PeerChannels}

-- two ends in p4, in one stretch, with nothing on the way to the second
pub record OneStretch (x y : At PeerStretch) (back : List Packet) : Type 0 where
  pub epochs : x.epoch ≡ y.epoch
  pub sends : Terms
  pub takes : Terms
  pub kept : Kept sends takes (state_of x.side) [] back (state_of y.side)

-- on a channel of two layers
pub record Meeting (k : ℕ) (x y : At PeerChannels) (back : List Packet) : Type 0 where
  pub restarts : x.epoch ≡ y.epoch
  pub clears : (state_of x.side k).epoch ≡ (state_of y.side k).epoch
  pub stretch : OneStretch (peer_transfer_of (state_of (state_of x.side k).side).stage) (peer_transfer_of (state_of (state_of y.side k).side).stage) back

-- ---- a handshake

both_meet : {S T P : Type 0} (l : Level S T P) {ex ey : ℕ} (x : S) (y : T) (K : List P) → Handshake l ex ey (Live x) (Live y) [] K
    → (ex ≡ ey) × l.related x [] (before l.mark K) y
both_meet l x y K (inl same) = (same.epochs, same.inner)
both_meet l x y K (inr (inl ahead)) = absurd ahead.there
both_meet l x y K (inr (inr later)) = absurd (true≢false (sym later.waits))

rest_live : {S T P : Type 0} (l : Level S T P) {ex ey : ℕ} (x : S) (y : Side T) → Handshake l ex ey (Live x) y [] [] → has_left y ≡ false
rest_live l x (Live z) h = refl
rest_live l x (Left z) (inl same) = absurd (true≢false same.back)
rest_live l x (Left z) (inr (inl ahead)) = absurd ahead.there
rest_live l x (Left z) (inr (inr later)) = absurd later.back

-- ---- p4

meet_transfer : (t b : Terms) (ex ey : ℕ) (x y : Side PeerStretch) (K : List Packet) → Handshake (two_level t b) ex ey x y [] K → not (has_left x) ≡ true
    → not (has_left y) ≡ true → OneStretch (record { epoch = ex; side = x }) (record { epoch = ey; side = y }) (before reset_mark K)
meet_transfer t b ex ey (Live x) (Live y) K h is there =
    let m = both_meet (two_level t b) x y K h in
    record { epochs = m.0; sends = t; takes = b; kept = m.1 }
meet_transfer t b ex ey (Left x) y K h is there = absurd (true≢false (sym is))
meet_transfer t b ex ey (Live x) (Left y) K h is there = absurd (true≢false (sym there))

rest_transfer : (t b : Terms) {ex ey : ℕ} (x y : Side PeerStretch) → Handshake (two_level t b) ex ey x y [] [] → not (has_left x) ≡ true
    → not (has_left y) ≡ true
rest_transfer t b (Live x) y h is = ap not (rest_live (two_level t b) x y h)
rest_transfer t b (Left x) y h is = absurd (true≢false (sym is))

meet_talks : {t b : Terms} (x : At PeerStretch) (v : List Packet) {t₂ b₂ : Terms} (y : At PeerStretch) → TwoTalks t b x [] v t₂ b₂ y
    → not (has_left x.side) ≡ true → not (has_left y.side) ≡ true → OneStretch x y (before reset_mark v)
meet_talks {t} {b} x v y h is there = meet_transfer t b x.epoch y.epoch x.side y.side v h.related.hand.hand is there

rest_talks : {t b : Terms} (x : At PeerStretch) {t₂ b₂ : Terms} (y : At PeerStretch) → TwoTalks t b x [] [] t₂ b₂ y → not (has_left x.side) ≡ true
    → not (has_left y.side) ≡ true
rest_talks {t} {b} x y h is = rest_transfer t b x.side y.side h.related.hand.hand is

-- ---- a call

meet_a : (a c : Stage (At PeerStretch)) (ma ia mb ib : List CallRequest) (v : List Packet) → TwoJoint a c ma ia mb ib [] v → is_open_stage a ≡ true
    → is_open_stage c ≡ true → OneStretch (peer_transfer_of a) (peer_transfer_of c) (before reset_mark v)
meet_a (Talking t k x) (Talking t₂ k₂ y) ma ia mb ib v h is there = meet_talks x v y h.0 is there
meet_a (Talking t k x) other ma ia mb ib v h is there = absurd (true≢false (sym there))
meet_a other c ma ia mb ib v h is there = absurd (true≢false (sym is))

meet_b : (c a : Stage (At PeerStretch)) (ma ia mb ib : List CallRequest) (v : List Packet) → TwoJoint c a ma ia mb ib v [] → is_open_stage a ≡ true
    → is_open_stage c ≡ true → OneStretch (peer_transfer_of a) (peer_transfer_of c) (before reset_mark v)
meet_b (Talking t₂ k₂ y) (Talking t k x) ma ia mb ib v h is there = meet_talks x v y (TwoTalks-flip h.0) is there
meet_b (Talking t₂ k₂ y) other ma ia mb ib v h is there = absurd (true≢false (sym is))
meet_b other a ma ia mb ib v h is there = absurd (true≢false (sym there))

rest_a : (a c : Stage (At PeerStretch)) (ma ia mb ib : List CallRequest) → TwoJoint a c ma ia mb ib [] [] → is_open_stage a ≡ true → is_open_stage c ≡ true
rest_a (Talking t k x) (Talking t₂ k₂ y) ma ia mb ib h is = rest_talks x y h.0 is
rest_a (Talking t k x) (Waiting q) ma ia mb ib h is = absurd h.0
rest_a (Talking t k x) other ma ia mb ib h is = absurd h
rest_a other c ma ia mb ib h is = absurd (true≢false (sym is))

rest_b : (c a : Stage (At PeerStretch)) (ma ia mb ib : List CallRequest) → TwoJoint c a ma ia mb ib [] [] → is_open_stage a ≡ true → is_open_stage c ≡ true
rest_b (Talking t₂ k₂ y) (Talking t k x) ma ia mb ib h is = rest_talks x y (TwoTalks-flip h.0) is
rest_b (Waiting q) (Talking t k x) ma ia mb ib h is = absurd h.1
rest_b (Crossed q) (Talking t k x) ma ia mb ib h is = absurd h.1
rest_b other (Talking t k x) ma ia mb ib h is = absurd h
rest_b c other ma ia mb ib h is = absurd (true≢false (sym is))

meet_call : (r : Role) (x : PeerCall) (v : List Packet) (y : PeerCall) → TwoCalls r x [] v y → is_open_stage x.stage ≡ true → is_open_stage y.stage ≡ true
    → OneStretch (peer_transfer_of x.stage) (peer_transfer_of y.stage) (before reset_mark v)
meet_call Dte x v y h is there = meet_a x.stage y.stage x.made x.indicated y.made y.indicated v h is there
meet_call Dce x v y h is there = meet_b y.stage x.stage y.made y.indicated x.made x.indicated v h is there

rest_call : (r : Role) (x y : PeerCall) → TwoCalls r x [] [] y → is_open_stage x.stage ≡ true → is_open_stage y.stage ≡ true
rest_call Dte x y h is = rest_a x.stage y.stage x.made x.indicated y.made y.indicated h is
rest_call Dce x y h is = rest_b y.stage x.stage y.made y.indicated x.made x.indicated h is

-- ---- channels and layers

module _ (G H : PeerCall → Type 0) (r : Role) where
  meet_channel : {ex ey : ℕ} (x y : Side PeerCall) (K : List Packet) → Handshake (two_call_level G H r) ex ey x y [] K → is_open_call x ≡ true
      → is_open_call y ≡ true
      → (ex ≡ ey) × OneStretch (peer_transfer_of (state_of x).stage) (peer_transfer_of (state_of y).stage) (before reset_mark (before clear_mark K))
  meet_channel (Live x) (Live y) K h is there =
      let m = both_meet (two_call_level G H r) x y K h in
      (m.0, meet_call r x (before clear_mark K) y m.1 is there)
  meet_channel (Left x) y K h is there = absurd (true≢false (sym is))
  meet_channel (Live x) (Left y) K h is there = absurd (true≢false (sym there))

  rest_channel : {ex ey : ℕ} (x y : Side PeerCall) → Handshake (two_call_level G H r) ex ey x y [] [] → is_open_call x ≡ true → is_open_call y ≡ true
  rest_channel (Live x) (Live y) h is = rest_call r x y (both_meet (two_call_level G H r) x y [] h).1 is
  rest_channel (Live x) (Left y) h is = absurd (true≢false (rest_live (two_call_level G H r) x (Left y) h))
  rest_channel (Left x) y h is = absurd (true≢false (sym is))

  -- open at both
  pub both_open : (k : ℕ) (x : At PeerChannels) (K : List LayerPacket) (y : At PeerChannels) → TwoLayers G H r x [] K y → is_open_there x.side k ≡ true
      → is_open_there y.side k ≡ true → Meeting k x y (before reset_mark (before clear_mark (on k (before restart_mark K))))
  both_open k x K y h is there = by x.side y.side h.hand is there
    where
      by : (s q : Side PeerChannels) → Handshake (two_layers_level G H r) x.epoch y.epoch s q [] K → is_open_there s k ≡ true → is_open_there q k ≡ true
          → Meeting k (record { epoch = x.epoch; side = s }) (record { epoch = y.epoch; side = q })
          (before reset_mark (before clear_mark (on k (before restart_mark K))))
      by (Live s) (Live q) h is there =
          let m = both_meet (two_layers_level G H r) s q K h in
          let c : TwoChannels G H r (s k) [] (on k (before restart_mark K)) (q k) = m.1.each k in
          let n = meet_channel (s k).side (q k).side (on k (before restart_mark K)) c.hand is there in
          record { restarts = m.0; clears = n.0; stretch = n.1 }
      by (Left s) q h is there = absurd (true≢false (sym is))
      by (Live s) (Left q) h is there = absurd (true≢false (sym there))

  -- and with nothing on the way at all
  pub rest_open : (k : ℕ) (x y : At PeerChannels) → TwoLayers G H r x [] [] y → is_open_there x.side k ≡ true → is_open_there y.side k ≡ true
  rest_open k x y h is = by x.side y.side h.hand is
    where
      by : (s q : Side PeerChannels) → Handshake (two_layers_level G H r) x.epoch y.epoch s q [] [] → is_open_there s k ≡ true → is_open_there q k ≡ true
      by (Live s) (Live q) h is = (let c : TwoChannels G H r (s k) [] [] (q k) = (both_meet (two_layers_level G H r) s q [] h).1.each k in
          rest_channel (s k).side (q k).side c.hand is)
      by (Live s) (Left q) h is = absurd (true≢false (rest_live (two_layers_level G H r) s (Left q) h))
      by (Left s) q h is = absurd (true≢false (sym is))
