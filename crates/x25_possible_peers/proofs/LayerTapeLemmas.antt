-- A tape of a peer's packet layer on one channel is one of an end that keeps the rules of a channel.
use Rattle.x25_possible_peers.proofs.Names.{◌≡◌, inl, ℕ, ◌==◌, Bool, true, false, List, [], ◌∷◌, ◌++◌, Some, refl, sym, ap, subst, ◌∙◌, if◌then◌else◌, eqb-true}
use Rattle.x25_possible_peers.proofs.Names.{append-nil, Role, More, Last, Side, Live, Left, At, Stage, Unused, Waiting, Offered, Crossed, Talking, PeerStretch}
use Rattle.x25_possible_peers.proofs.Names.{PeerCall, does_channel, channel_packet_of, channel_taking, sends_as, takes, Item, Stands, Limits, Phase, item_of}
use Rattle.std.proofs.Common.{append_assoc}
use Rattle.x25_handshakes.specs.laws.{Layers.{LayerPacket, addressed}, PeerLayer.{ready_taking}, PeerLayers.{AreElsewhere}}
use Rattle.x25_handshakes.specs.laws.PeerLayer.{PeerChannels, put_peer, LayerDeed, InChannel, Restarts, MayDoLayer, does_layer, layer_packet_of, layer_taking}
use Rattle.x25_possible.specs.{Channel.{channel_rules}, declared.packet.Packet.{Packet}}
use Rattle.x25_possible.specs.laws.Possible.{Own, Begins as RunBegins, Sends as RunSends, Shows as RunShows, Takes as RunTakes}
use Rattle.x25_possible_peers.proofs.{Names.{phase_of, stage_phase, transfer_phase, limits, IsOfRole}, PeerLemmas.{channel_sends, channel_takes}}
use Rattle.x25_possible_peers.{proofs.TapeLemmas.{does_of_role, takes_of_role, fresh_of_role, taken_so}, specs.laws.LayerPeers.{HearsChannel}}
use Rattle.x25_possible_peers.specs.laws.LayerPeers.{phase_on, item_on, confirmed_on, comes_on, way_on, shown_on, LayerStands, Begins, Does, Shown, Hears}
use Rattle.x25_possible_peers.specs.laws.Peers.{confirmed}
use Rattle.x25_handshakes.specs.laws.Layers as layers
use Rattle.x25_handshakes.specs.laws.Stretch as theirs
use Rattle.x25_possible.specs.declared.packet.Packet.TheVariants as item
use Rattle.x25_possible.specs.declared.phase.Phase.TheVariants as phase

-- ---- in each phase of a channel

module _ (P : Phase → Type 0) (idle : P phase.Idle) (calls : (t : _) → P (phase.Calls t)) (called : (t : _) → P (phase.WasCalled t))
    (talks : (k : _) → P (phase.Talks k)) (resets : (l : _) → P (phase.Resets l)) (clears : P phase.Clears) where
  in_transfer : (l : Limits) (y : Side PeerStretch) → P (transfer_phase l y)
  in_transfer l (Live y) = talks _
  in_transfer l (Left y) = resets _

  in_stage : (stage : Stage (At PeerStretch)) → P (stage_phase stage)
  in_stage Unused = idle
  in_stage (Waiting mine) = calls _
  in_stage (Offered theirs) = called _
  in_stage (Crossed mine) = calls _
  in_stage (Talking t b at) = in_transfer (limits t) at.side

  pub in_phase : (y : Side PeerCall) → P (phase_of y)
  in_phase (Live c) = in_stage c.stage
  in_phase (Left c) = clears

pub sends_elsewhere : (y : Side PeerCall) → sends_as 0 (phase_of y) item.Elsewhere ≡ Some (phase_of y)
sends_elsewhere y =
    in_phase (λ s. sends_as 0 s item.Elsewhere ≡ Some s) refl (λ t. refl) (λ t. refl) (λ k. refl) (λ l. refl) refl y

sends_restart : (y : Side PeerCall) → sends_as 0 (phase_of y) item.Restart ≡ Some phase.Restarts
sends_restart y =
    in_phase (λ s. sends_as 0 s item.Restart ≡ Some phase.Restarts) refl (λ t. refl) (λ t. refl) (λ k. refl) (λ l. refl) refl y

pub takes_restart : (r : Role) (y : Side PeerCall) → takes r (phase_of y) item.Restart ≡ phase.WasRestarted
takes_restart r y =
    in_phase (λ s. takes r s item.Restart ≡ phase.WasRestarted) refl (λ t. refl) (λ t. refl) (λ k. refl) (λ l. refl) refl y

pub takes_confirmation : (r : Role) (y : Side PeerCall) → takes r (phase_of y) item.RestartConf ≡ phase_of y
takes_confirmation r y =
    in_phase (λ s. takes r s item.RestartConf ≡ s) refl (λ t. refl) (λ t. refl) (λ k. refl) (λ l. refl) refl y

pub drops : (r : Role) (p : theirs.Packet) → takes r phase.Restarts (item_of p) ≡ phase.Restarts
drops r (theirs.Data ns nr (More q user)) = refl
drops r (theirs.Data ns nr (Last q user)) = refl
drops r p = refl

-- ---- each channel is of the role

abbrev LayerOfRole : Role → Side PeerChannels → Type 0
LayerOfRole r (Live y) = (k : ℕ) → IsOfRole r (y k).side
LayerOfRole r (Left y) = Unit {0}

put_of_role : (r : Role) (y : PeerChannels) (k : ℕ) (a : At PeerCall) → ((j : ℕ) → IsOfRole r (y j).side) → IsOfRole r a.side
    → (j : ℕ) → IsOfRole r (put_peer y k a j).side
put_of_role r y k a all is j = by (j == k)
  where
    by : (b : Bool) → IsOfRole r (if b then a else y j).side
    by true = is
    by false = all j

does_role : (r : Role) (e : ℕ) (y : Side PeerChannels) (d : LayerDeed) → LayerOfRole r y → LayerOfRole r (does_layer e y d).side
does_role r e (Live y) (InChannel k d) all =
    put_of_role r y k (does_channel (y k).epoch (y k).side d) all (does_of_role r (y k).epoch (y k).side d (all k))
does_role r e (Live y) Restarts all = tt
does_role r e (Left y) d all = tt

ready_role : (r : Role) (e : ℕ) (y : PeerChannels) (p : LayerPacket) → ((k : ℕ) → IsOfRole r (y k).side) → LayerOfRole r (ready_taking r e y p).next.side
ready_role r e y (layers.On k p) all =
    put_of_role r y k (channel_taking r (y k).epoch (y k).side p).next all (takes_of_role r (y k).epoch (y k).side p (all k))
ready_role r e y layers.Restart all = λ k. fresh_of_role r
ready_role r e y layers.RestartConf all = all

takes_role : (r : Role) (e : ℕ) (y : Side PeerChannels) (p : LayerPacket) → LayerOfRole r y → LayerOfRole r (layer_taking r e y p).next.side
takes_role r e (Live y) p all = ready_role r e y p all
takes_role r e (Left y) (layers.On k p) all = tt
takes_role r e (Left y) layers.Restart all = λ k. fresh_of_role r
takes_role r e (Left y) layers.RestartConf all = λ k. fresh_of_role r

of_role : (r : Role) (h : ℕ) (tape : List (Item Packet)) (y : At PeerChannels) (way : List LayerPacket) → LayerStands r h tape y way → LayerOfRole r y.side
of_role r h _ _ _ Begins = λ k. fresh_of_role r
of_role r h _ _ _ (Does tape y way d may run) = does_role r y.epoch y.side d (of_role r h tape y way run)
of_role r h _ _ _ (Shown tape y way p run) = of_role r h tape y way run
of_role r h _ _ _ (Hears tape y way p run) = takes_role r y.epoch y.side p (of_role r h tape y (p ∷ way) run)
of_role r h _ _ _ (HearsChannel tape e y k passed way p apart run) = ready_role r e y (layers.On k p) (of_role r h tape _ _ run)

-- ---- what is on the way

way_append : (h : ℕ) (u v : List LayerPacket) → way_on h (u ++ v) ≡ way_on h u ++ way_on h v
way_append h [] v = refl
way_append h (p ∷ u) v = ap (λ l. comes_on h p ++ l) (way_append h u v) ∙ sym (append_assoc (comes_on h p) (way_on h u) (way_on h v))

none_passed : (h : ℕ) (passed : List LayerPacket) → AreElsewhere h passed → way_on h passed ≡ []
none_passed h [] apart = refl
none_passed h (layers.On k p ∷ passed) apart =
    ap (λ b. (if b then item_of p ∷ [] else []) ++ way_on h passed) apart.0 ∙ none_passed h passed apart.1
none_passed h (layers.Restart ∷ passed) apart = absurd apart.0
none_passed h (layers.RestartConf ∷ passed) apart = absurd apart.0

-- ---- a run

module _ (r : Role) (h : ℕ) where
  abbrev Run : List (Item Packet) → Phase → List Packet → Type 0
  Run tape s way = Stands (channel_rules r (phase.Idle ∷ [])) tape s way

  does_on : (tape : List (Item Packet)) (e : ℕ) (y : Side PeerChannels) (way : List Packet) (d : LayerDeed) → MayDoLayer y d
      → Run tape (phase_on h y) way → Run (Own (item_on h (layer_packet_of y d)) ∷ tape) (phase_on h (does_layer e y d).side) way
  does_on tape e (Live y) way (InChannel k d) may run = by (h == k) refl
    where
      by : (b : Bool) → (h == k) ≡ b
          → Run (Own (if b then item_of (channel_packet_of (y k).side d) else item.Elsewhere) ∷ tape)
          (phase_of (if b then does_channel (y k).epoch (y k).side d else y h).side) way
      by true is =
          let here = subst (λ j. Run tape (phase_of (y j).side) way) (eqb-true h k is) run in
          RunSends tape (phase_of (y k).side) (phase_of (does_channel (y k).epoch (y k).side d).side) way (item_of (channel_packet_of (y k).side d))
          (channel_sends (y k).epoch (y k).side d may) here
      by false is = RunSends tape (phase_of (y h).side) (phase_of (y h).side) way item.Elsewhere (0, sends_elsewhere (y h).side) run
  does_on tape e (Live y) way Restarts may run =
      RunSends tape (phase_of (y h).side) phase.Restarts way item.Restart (0, sends_restart (y h).side) run
  does_on tape e (Left y) way d may run = absurd may

  -- a packet of its channel, or of another
  confirms_here : (b : Bool) (k : ℕ) (out : List theirs.Packet) (tape : List (Item Packet)) → (h == k) ≡ b → b ≡ true
      → confirmed out tape ≡ confirmed_on h (addressed k out) tape
  confirms_here b k [] tape is here = refl
  confirms_here b k (p ∷ out) tape is here = ap (λ c. Own (if c then item_of p else item.Elsewhere) ∷ tape) (sym (is ∙ here))

  confirms_elsewhere : (k : ℕ) (out : List theirs.Packet) (tape : List (Item Packet)) (y : Side PeerCall) (way : List Packet) → (h == k) ≡ false
      → Run tape (phase_of y) way → Run (confirmed_on h (addressed k out) tape) (phase_of y) way
  confirms_elsewhere k [] tape y way is run = run
  confirms_elsewhere k (p ∷ out) tape y way is run =
      subst (λ c. Run (Own (if c then item_of p else item.Elsewhere) ∷ tape) (phase_of y) way) (sym is)
      (RunSends tape (phase_of y) (phase_of y) way item.Elsewhere (0, sends_elsewhere y) run)

  hears_on : (tape : List (Item Packet)) (e : ℕ) (y : PeerChannels) (k : ℕ) (p : theirs.Packet) (way : List Packet)
      → ((j : ℕ) → IsOfRole r (y j).side) → Run tape (phase_of (y h).side) (comes_on h (layers.On k p) ++ way)
      → Run (confirmed_on h (ready_taking r e y (layers.On k p)).out tape) (phase_on h (ready_taking r e y (layers.On k p)).next.side) way
  hears_on tape e y k p way all run = by (h == k) refl run
    where
      by : (b : Bool) → (h == k) ≡ b → Run tape (phase_of (y h).side) ((if b then item_of p ∷ [] else []) ++ way)
          → Run (confirmed_on h (addressed k (channel_taking r (y k).epoch (y k).side p).out) tape)
          (phase_of (if b then (channel_taking r (y k).epoch (y k).side p).next else y h).side) way
      by true is run =
          subst (λ t. Run t (phase_of (channel_taking r (y k).epoch (y k).side p).next.side) way)
          (confirms_here (h == k) k (channel_taking r (y k).epoch (y k).side p).out tape refl is)
          (taken_so r tape (phase_of (y k).side) (phase_of (channel_taking r (y k).epoch (y k).side p).next.side) (item_of p) way
          (channel_taking r (y k).epoch (y k).side p).out (channel_takes r (y k).epoch (y k).side p (all k))
          (subst (λ j. Run tape (phase_of (y j).side) (item_of p ∷ way)) (eqb-true h k is) run))
      by false is run = confirms_elsewhere k (channel_taking r (y k).epoch (y k).side p).out tape (y h).side way is run

  left_on : (tape : List (Item Packet)) (k : ℕ) (p : theirs.Packet) (way : List Packet) → Run tape phase.Restarts (comes_on h (layers.On k p) ++ way)
      → Run tape phase.Restarts way
  left_on tape k p way run = by (h == k) run
    where
      by : (b : Bool) → Run tape phase.Restarts ((if b then item_of p ∷ [] else []) ++ way) → Run tape phase.Restarts way
      by true run = RunTakes tape phase.Restarts phase.Restarts way (item_of p) (drops r p) run
      by false run = run

  takes_on : (tape : List (Item Packet)) (e : ℕ) (y : Side PeerChannels) (p : LayerPacket) (way : List Packet) → LayerOfRole r y
      → Run tape (phase_on h y) (comes_on h p ++ way)
      → Run (confirmed_on h (layer_taking r e y p).out tape) (phase_on h (layer_taking r e y p).next.side) way
  takes_on tape e (Live y) (layers.On k p) way all run = hears_on tape e y k p way all run
  takes_on tape e (Live y) layers.Restart way all run =
      RunSends tape phase.WasRestarted phase.Idle way item.RestartConf (0, refl)
      (RunTakes tape (phase_of (y h).side) phase.WasRestarted way item.Restart (takes_restart r (y h).side) run)
  takes_on tape e (Live y) layers.RestartConf way all run =
      RunTakes tape (phase_of (y h).side) (phase_of (y h).side) way item.RestartConf (takes_confirmation r (y h).side) run
  takes_on tape e (Left y) (layers.On k p) way all run = left_on tape k p way run
  takes_on tape e (Left y) layers.Restart way all run = RunTakes tape phase.Restarts phase.Idle way item.Restart refl run
  takes_on tape e (Left y) layers.RestartConf way all run = RunTakes tape phase.Restarts phase.Idle way item.RestartConf refl run

  -- the first of its channel, before those of others
  by_channel : (passed way : List LayerPacket) (k : ℕ) (p : theirs.Packet) → AreElsewhere k passed
      → way_on h (passed ++ layers.On k p ∷ way) ≡ comes_on h (layers.On k p) ++ way_on h (passed ++ way)
  by_channel passed way k p apart =
      way_append h passed (layers.On k p ∷ way) ∙ by (h == k) refl
      ∙ ap (λ l. (if h == k then item_of p ∷ [] else []) ++ l) (sym (way_append h passed way))
    where
      by : (b : Bool) → (h == k) ≡ b → way_on h passed ++ ((if b then item_of p ∷ [] else []) ++ way_on h way)
          ≡ (if b then item_of p ∷ [] else []) ++ (way_on h passed ++ way_on h way)
      by true is =
          let none = subst (λ j. way_on j passed ≡ []) (sym (eqb-true h k is)) (none_passed k passed apart) in
          ap (λ l. l ++ item_of p ∷ way_on h way) none ∙ ap (λ l. item_of p ∷ (l ++ way_on h way)) (sym none)
      by false is = refl

  shows_on : (tape : List (Item Packet)) (s : Phase) (way xs : List Packet) (p : LayerPacket) → comes_on h p ≡ xs → Run tape s way
      → Run (shown_on xs tape) s (way ++ xs)
  shows_on tape s way [] p is run = subst (λ w. Run tape s w) (sym (append-nil way)) run
  shows_on tape s way (x ∷ []) p is run = RunShows tape s way x run
  shows_on tape s way (x ∷ z ∷ xs) p is run = absurd (one p x z xs is)
    where
      one : (p : LayerPacket) (x z : Packet) (xs : List Packet) → comes_on h p ≡ x ∷ z ∷ xs → ⊥
      one (layers.On k p) x z xs e = by (h == k) e
        where
          by : (b : Bool) → (if b then item_of p ∷ [] else []) ≡ x ∷ z ∷ xs → ⊥
          by true e = cc
          by false e = cc
      one layers.Restart x z xs e = cc
      one layers.RestartConf x z xs e = cc

  pub explained : (tape : List (Item Packet)) (y : At PeerChannels) (way : List LayerPacket) → LayerStands r h tape y way
      → Run tape (phase_on h y.side) (way_on h way)
  explained _ _ _ Begins = RunBegins phase.Idle (inl refl)
  explained _ _ _ (Does tape y way d may run) = does_on tape y.epoch y.side (way_on h way) d may (explained tape y way run)
  explained _ _ _ (Shown tape y way p run) =
      subst (λ w. Run (shown_on (comes_on h p) tape) (phase_on h y.side) w)
      (ap (λ l. way_on h way ++ l) (sym (append-nil (comes_on h p))) ∙ sym (way_append h way (p ∷ [])))
      (shows_on tape (phase_on h y.side) (way_on h way) (comes_on h p) p refl (explained tape y way run))
  explained _ _ _ (Hears tape y way p run) =
      takes_on tape y.epoch y.side p (way_on h way) (of_role r h tape y (p ∷ way) run) (explained tape y (p ∷ way) run)
  explained _ _ _ (HearsChannel tape e y k passed way p apart run) =
      hears_on tape e y k p (way_on h (passed ++ way)) (of_role r h tape _ _ run)
      (subst (λ w. Run tape (phase_of (y h).side) w) (by_channel passed way k p apart) (explained tape _ _ run))
