-- What our end's circuits show of the end that it is; and what the order of two ends says of its transcript.
use Rattle.x25_layer.proofs.Names.{◌≡◌, ◌⊎◌, inl, inr, ℕ, ◌≤◌, ◌<◌, List, [], ◌++◌, length, Bool, true, false, refl, sym, ap, subst}
use Rattle.x25_layer.proofs.Names.{◌∙◌, arith, not, wholes, Piece, no_part, joining, carried, Circuit, is_open, outgoing, waits, Side, Live, Left, At}
use Rattle.x25_layer.proofs.Names.{state_of, has_left, Talking, Name, IsEarlier, Lists, IsPrefix, Message, Layer, name_of, Entry}
use Rattle.x25_layer.proofs.Names.{under, calls_in, messages_in, interrupts_in, End}
use Rattle.std.proofs.lemmas.Bool.{true≢false}
use Rattle.x25_handshakes.proofs.{Meetings.{Meeting}, TextLemmas.{carried-append, nothing_waits}}
use Rattle.x25_handshakes.specs.laws.{Calls.{Stage}, PeerCalls.{PeerCall, fresh_peer_call}}
use Rattle.x25_handshakes.specs.laws.PeerClaims.{InEpochs, peer_transfer_of, is_open_stage, is_open_call, is_open_there}
use Rattle.x25_handshakes.specs.laws.{PeerLayer.{PeerChannels, peer_fresh}, PeerStretch.{PeerStretch, fresh_peer}}
use Rattle.x25_handshakes.specs.laws.{TwoLayers.{CallsInOrder, ChannelsInOrder}, TwoPeers.{BothInOrder}}
use Rattle.x25_layer.proofs.Ends.{talk_of, Agreed, view, FitsIn, FitsTalk, Fits, circuit_at, ShowsAt, SeesLayer}
use Rattle.x25_layer.proofs.HistoryLemmas.{name_at, held_at, held_in, IsLive, transfer_at, messages, interrupts, calls, Written, prefix_more}
use Rattle.x25_layer.proofs.{EndLemmas.{StandsAt}, Names.{suc}, RowLemmas.{append_nil}, StepLemmas.{name_eq}}
use Rattle.x25_layer.{proofs.Names.{Packet}, specs.Layer.{rested}, specs.laws.PeerClaims.{peer_call, peer_stretch, peer_name, of_call}}

-- ---- names

pub name_shown : (most : ℕ) (l : Layer) (y : At PeerChannels) (rest : ℕ → List Piece) (k : ℕ) → SeesLayer most l y rest → name_of l k ≡ peer_name y k
name_shown most l y rest k s = by y.side (s.circuits k)
  where
    by : (side : Side PeerChannels) → ShowsAt most side rest k (l.circuits k) → name_of l k ≡ peer_name (record { epoch = y.epoch; side = side }) k
    by (Live x) shows = name_eq (name_of l k) (peer_name (record { epoch = y.epoch; side = Live x }) k) s.restarts (ap (λ (c : Circuit). c.clears) shows.is)
        (ap (λ (c : Circuit). c.resets) shows.is)
    by (Left x) shows = name_eq (name_of l k) (peer_name (record { epoch = y.epoch; side = Left x }) k) s.restarts (ap (λ (c : Circuit). c.clears) shows)
        (ap (λ (c : Circuit). c.resets) shows)

-- ---- a circuit that is open

-- in d1 of the stretch that stands there
pub record Opened (c : Circuit) (y : PeerStretch) (rest : List Piece) (m : Lists Message) (i : Lists (List ℕ)) : Type 0 where
  pub talk : c.talk ≡ talk_of y rest
  pub no_more : waits c ≡ wholes rest
  pub window : 1 ≤ (outgoing c).window
  pub whole : joining no_part (y.sent ++ rest) ≡ no_part
  pub messages : m ≡ record { down = carried (y.sent ++ rest); up = carried y.taken }
  pub interrupts : i ≡ record { down = y.int_down; up = y.int_up }

abbrev HeldM : List Piece → PeerCall → Lists Message
HeldM rest n = messages.held n rest

abbrev HeldI : List Piece → PeerCall → Lists (List ℕ)
HeldI rest n = interrupts.held n rest

abbrev OpenAt : Circuit → At PeerCall → List Piece → Type 0
OpenAt c n rest = (is_open_call n.side ≡ true)
    × Opened c (state_of (peer_transfer_of (state_of n.side).stage).side) rest (HeldM rest (state_of n.side)) (HeldI rest (state_of n.side))

open_view : (most : ℕ) (g : Agreed) (rest : List Piece) (n : At PeerCall) → Fits most g rest n.side → is_open (view g rest n) ≡ true
    → OpenAt (view g rest n) n rest
open_view most g rest n fits is = by n.epoch n.side fits is
  where
    d1 : (e s : ℕ) (m i : List _) (t b : _) (side : Side PeerStretch) → FitsTalk most g rest t b side
        → (let n : At PeerCall = record {
          epoch = e;
          side = Live (record { stage = Talking t b (record { epoch = s; side = side }); made = m; indicated = i });
        } in is_open (view g rest n) ≡ true → OpenAt (view g rest n) n rest)
    d1 e s m i t b (Live y) fits is = (
      refl,
      record {
        talk = refl;
        no_more = refl;
        window = subst (λ u. 1 ≤ u) (ap (λ (u : _). u.window) fits.sends) fits.sound.least;
        whole = fits.own.text.whole;
        messages = refl;
        interrupts = refl;
      },
    )
    d1 e s m i t b (Left y) fits is = absurd (true≢false (sym is))

    stage : (e : ℕ) (m i : List _) (a : Stage (At PeerStretch)) → FitsIn most g rest a
        → (let n : At PeerCall = record { epoch = e; side = Live (record { stage = a; made = m; indicated = i }) } in
        is_open (view g rest n) ≡ true → OpenAt (view g rest n) n rest)
    stage e m i (Talking t b at) fits is = d1 e at.epoch m i t b at.side fits is
    stage e m i a fits is = absurd (true≢false (sym is))

    by : (e : ℕ) (side : Side PeerCall) → Fits most g rest side
        → (let n : At PeerCall = record { epoch = e; side = side } in is_open (view g rest n) ≡ true → OpenAt (view g rest n) n rest)
    by e (Live n) fits is = stage e n.made n.indicated n.stage fits is
    by e (Left n) fits is = absurd (true≢false (sym is))

-- the circuit of a channel is open: so is the end there
pub record OpenHere (l : Layer) (y : At PeerChannels) (rest : ℕ → List Piece) (k : ℕ) : Type 0 where
  pub there : is_open_there y.side k ≡ true
  pub shown : Opened (l.circuits k) (peer_stretch y k) (rest k) (held_at messages y rest k) (held_at interrupts y rest k)

pub open_here : (most : ℕ) (l : Layer) (y : At PeerChannels) (rest : ℕ → List Piece) (k : ℕ) → SeesLayer most l y rest → is_open (l.circuits k) ≡ true
    → OpenHere l y rest k
open_here most l y rest k s is = by y.side (s.circuits k)
  where
    by : (side : Side PeerChannels) → ShowsAt most side rest k (l.circuits k) → OpenHere l (record { epoch = y.epoch; side = side }) rest k
    by (Live x) shows =
        let o = open_view most shows.agreed (rest k) (x k) shows.fits (ap is_open (sym shows.is) ∙ is) in
        record {
          there = o.0;
          shown = subst (λ (c : Circuit). Opened c (peer_stretch (record { epoch = y.epoch; side = Live x }) k) (rest k)
              (held_at messages (record { epoch = y.epoch; side = Live x }) rest k) (held_at interrupts (record { epoch = y.epoch; side = Live x }) rest k))
              (sym shows.is) o.1;
        }
    by (Left x) shows = absurd (true≢false (sym is ∙ ap is_open shows))

-- an end that is open is so by its circuit
pub record IsShown (c : Circuit) (y : PeerStretch) : Type 0 where
  pub opened : is_open c ≡ true
  pub ready : c.talk.own_ready ≡ y.own_ready
  pub told : y.told ≡ length y.taken

shown_view : (most : ℕ) (g : Agreed) (rest : List Piece) (n : At PeerCall) → Fits most g rest n.side → is_open_call n.side ≡ true
    → IsShown (view g rest n) (state_of (peer_transfer_of (state_of n.side).stage).side)
shown_view most g rest n fits is = by n.epoch n.side fits is
  where
    d1 : (e s : ℕ) (m i : List _) (t b : _) (side : Side PeerStretch) → FitsTalk most g rest t b side → not (has_left side) ≡ true
        → IsShown (view g rest (record { epoch = e; side = Live (record { stage = Talking t b (record { epoch = s; side = side }); made = m; indicated = i }) }))
        (state_of side)
    d1 e s m i t b (Live y) fits is = record { opened = refl; ready = refl; told = fits.own.told }
    d1 e s m i t b (Left y) fits is = absurd (true≢false (sym is))

    stage : (e : ℕ) (m i : List _) (a : Stage (At PeerStretch)) → FitsIn most g rest a → is_open_stage a ≡ true
        → IsShown (view g rest (record { epoch = e; side = Live (record { stage = a; made = m; indicated = i }) })) (state_of (peer_transfer_of a).side)
    stage e m i (Talking t b at) fits is = d1 e at.epoch m i t b at.side fits is
    stage e m i a fits is = absurd (true≢false (sym is))

    by : (e : ℕ) (side : Side PeerCall) → Fits most g rest side → is_open_call side ≡ true
        → IsShown (view g rest (record { epoch = e; side = side })) (state_of (peer_transfer_of (state_of side).stage).side)
    by e (Live n) fits is = stage e n.made n.indicated n.stage fits is
    by e (Left n) fits is = absurd (true≢false (sym is))

pub is_shown : (most : ℕ) (l : Layer) (y : At PeerChannels) (rest : ℕ → List Piece) (k : ℕ) → SeesLayer most l y rest → is_open_there y.side k ≡ true
    → IsShown (l.circuits k) (peer_stretch y k)
is_shown most l y rest k s is = by y.side (s.circuits k) is
  where
    by : (side : Side PeerChannels) → ShowsAt most side rest k (l.circuits k) → is_open_there side k ≡ true
        → IsShown (l.circuits k) (peer_stretch (record { epoch = y.epoch; side = side }) k)
    by (Live x) shows is = subst (λ (c : Circuit). IsShown c (peer_stretch (record { epoch = y.epoch; side = Live x }) k)) (sym shows.is)
        (shown_view most shows.agreed (rest k) (x k) shows.fits is)
    by (Left x) shows is = absurd (true≢false (sym is))

-- a circuit that isn't open keeps nothing
closed_view : (g : Agreed) (rest : List Piece) (n : At PeerCall) → is_open (view g rest n) ≡ false → waits (view g rest n) ≡ 0
closed_view g rest n is = by n.epoch n.side is
  where
    d1 : (e s : ℕ) (m i : List _) (t b : _) (side : Side PeerStretch)
        → (let n : At PeerCall = record {
          epoch = e;
          side = Live (record { stage = Talking t b (record { epoch = s; side = side }); made = m; indicated = i });
        } in is_open (view g rest n) ≡ false → waits (view g rest n) ≡ 0)
    d1 e s m i t b (Live y) is = absurd (true≢false is)
    d1 e s m i t b (Left y) is = refl

    stage : (e : ℕ) (m i : List _) (a : Stage (At PeerStretch))
        → (let n : At PeerCall = record { epoch = e; side = Live (record { stage = a; made = m; indicated = i }) } in
        is_open (view g rest n) ≡ false → waits (view g rest n) ≡ 0)
    stage e m i (Talking t b at) is = d1 e at.epoch m i t b at.side is
    stage e m i a is = refl

    by : (e : ℕ) (side : Side PeerCall)
        → (let n : At PeerCall = record { epoch = e; side = side } in is_open (view g rest n) ≡ false → waits (view g rest n) ≡ 0)
    by e (Live n) is = stage e n.made n.indicated n.stage is
    by e (Left n) is = refl

pub closed_end : (most : ℕ) (e : End) (s : Side (At PeerChannels)) (rest : ℕ → List Piece) (k : ℕ) → StandsAt most e s rest
    → is_open (e.layer.circuits k) ≡ false → waits (e.layer.circuits k) ≡ 0
closed_end most e (Left y) rest k at closed = ap (λ (l : Layer). waits (l.circuits k)) at.1
closed_end most e (Live y) rest k at closed = by y.side (at.1.circuits k)
  where
    by : (side : Side PeerChannels) → ShowsAt most side rest k (e.layer.circuits k) → waits (e.layer.circuits k) ≡ 0
    by (Left x) shows = ap waits shows
    by (Live x) shows = ap waits shows.is ∙ closed_view shows.agreed (rest k) (x k) (sym (ap is_open shows.is) ∙ closed)

-- ---- what was carried

-- the messages of the first data packets come first
pub carried_begin : (a b : List Piece) → IsPrefix a b → IsPrefix (carried a) (carried b)
carried_begin a b p = (_, sym (ap carried (sym p.1) ∙ carried-append no_part a p.0))

-- what is held of a stretch, in p4 and outside of it
held_up : (rest : List Piece) (a : Stage (At PeerStretch)) → (held_in (λ y rest. carried (y.sent ++ rest)) (λ y. carried y.taken) rest a).up
    ≡ carried (state_of (peer_transfer_of a).side).taken
held_up rest (Talking t b at) = refl
held_up rest a = refl

held_down : (rest : List Piece) (a : Stage (At PeerStretch)) → IsPrefix (carried (state_of (peer_transfer_of a).side).sent)
    (held_in (λ y rest. carried (y.sent ++ rest)) (λ y. carried y.taken) rest a).down
held_down rest (Talking t b at) = carried_begin (state_of at.side).sent ((state_of at.side).sent ++ rest) (rest, refl)
held_down rest a = ([], refl)

held_ints : (rest : List Piece) (a : Stage (At PeerStretch)) → held_in (λ y rest. y.int_down) (λ y. y.int_up) rest a
    ≡ record { down = (state_of (peer_transfer_of a).side).int_down; up = (state_of (peer_transfer_of a).side).int_up }
held_ints rest (Talking t b at) = refl
held_ints rest a = refl

pub messages_up : (y : At PeerChannels) (rest : ℕ → List Piece) (k : ℕ) → (held_at messages y rest k).up ≡ carried (peer_stretch y k).taken
messages_up y rest k = held_up (rest k) (peer_call y k).stage

pub messages_down : (y : At PeerChannels) (rest : ℕ → List Piece) (k : ℕ) → IsPrefix (carried (peer_stretch y k).sent) (held_at messages y rest k).down
messages_down y rest k = held_down (rest k) (peer_call y k).stage

pub interrupts_both : (y : At PeerChannels) (rest : ℕ → List Piece) (k : ℕ) → held_at interrupts y rest k
    ≡ record { down = (peer_stretch y k).int_down; up = (peer_stretch y k).int_up }
interrupts_both y rest k = held_ints (rest k) (peer_call y k).stage

-- ---- two ends, of which the near one has left nothing

-- what it took is of the other end's present epoch; or it is ahead, and the other did nothing there yet
record Meets {S T : Type 0} (R : S → T → Type 0) (there : T) (x : At S) (y : At T) : Type 0 where
  other : T
  related : R (state_of x.side) other
  at : ((x.epoch ≡ y.epoch) × (other ≡ state_of y.side)) ⊎ ((y.epoch < x.epoch) × (other ≡ there))

meets : {S T : Type 0} {R : S → T → Type 0} {fresh : S} {there : T} {x : At S} {y : At T} → InEpochs R fresh there x y → has_left x.side ≡ false
    → Meets R there x y
meets {R} {there} {x} {y} o live = by o.apart
  where
    by : (x.epoch ≡ y.epoch) ⊎ ((x.epoch ≡ suc y.epoch) ⊎ (y.epoch ≡ suc x.epoch)) → Meets R there x y
    by (inl e) = record { other = state_of y.side; related = o.same e; at = inl (e, refl) }
    by (inr (inl e)) = record { other = there; related = (o.near_ahead e).0; at = inr (omega (arith, e), refl) }
    by (inr (inr e)) = absurd (true≢false (sym (o.peer_ahead e).1 ∙ live))

abbrev pub Order : At PeerChannels → At PeerChannels → Type 0
Order y z = InEpochs ChannelsInOrder peer_fresh peer_fresh y z

-- of a call
pub record CallBeside (y z : At PeerChannels) (k : ℕ) : Type 0 where
  pub other : PeerCall
  pub order : CallsInOrder (peer_call y k) other
  pub at : ((of_call (peer_name y k) ≡ of_call (peer_name z k)) × (other ≡ peer_call z k))
      ⊎ (IsEarlier (of_call (peer_name z k)) (of_call (peer_name y k)) × (other ≡ fresh_peer_call))

pub call_beside : (y z : At PeerChannels) (k : ℕ) → Order y z → IsLive y k → CallBeside y z k
call_beside y z k o live =
    let m = meets o live.0 in
    let n = meets (m.related k) live.1 in
    record { other = n.other; order = n.related; at = by m.other m.at n.other n.at }
  where
    by : (c : PeerChannels) → ((y.epoch ≡ z.epoch) × (c ≡ state_of z.side)) ⊎ ((z.epoch < y.epoch) × (c ≡ peer_fresh)) → (d : PeerCall)
        → (((circuit_at y k).epoch ≡ (c k).epoch) × (d ≡ state_of (c k).side)) ⊎ (((c k).epoch < (circuit_at y k).epoch) × (d ≡ fresh_peer_call))
        → ((of_call (peer_name y k) ≡ of_call (peer_name z k)) × (d ≡ peer_call z k))
        ⊎ (IsEarlier (of_call (peer_name z k)) (of_call (peer_name y k)) × (d ≡ fresh_peer_call))
    by c (inl here) d (inl there) = inl (
      name_eq (of_call (peer_name y k)) (of_call (peer_name z k)) here.0 (there.0 ∙ ap (λ (f : PeerChannels). (f k).epoch) here.1) refl,
      there.1 ∙ ap (λ (f : PeerChannels). state_of (f k).side) here.1,
    )
    by c (inl here) d (inr there) = inr (
      inr (sym here.0, inl (subst (λ (f : PeerChannels). (f k).epoch < (circuit_at y k).epoch) here.1 there.0)),
      there.1,
    )
    by c (inr ahead) d (inl there) = inr (inl ahead.0, there.1 ∙ ap (λ (f : PeerChannels). state_of (f k).side) ahead.1)
    by c (inr ahead) d (inr there) = inr (inl ahead.0, there.1)

-- of a stretch
pub record StretchBeside (y z : At PeerChannels) (k : ℕ) : Type 0 where
  pub other : PeerStretch
  pub order : BothInOrder (peer_stretch y k) other
  pub at : ((peer_name y k ≡ peer_name z k) × (other ≡ peer_stretch z k)) ⊎ (IsEarlier (peer_name z k) (peer_name y k) × (other ≡ fresh_peer))

pub stretch_beside : (y z : At PeerChannels) (k : ℕ) → Order y z → IsLive y k → has_left (transfer_at y k).side ≡ false → StretchBeside y z k
stretch_beside y z k o live opened =
    let m = call_beside y z k o live in
    let n = meets m.order.stretches opened in
    record { other = n.other; order = n.related; at = by m.other m.at n.other n.at }
  where
    earlier : IsEarlier (of_call (peer_name z k)) (of_call (peer_name y k)) → IsEarlier (peer_name z k) (peer_name y k)
    earlier (inl less) = inl less
    earlier (inr (same, inl less)) = inr (same, inl less)
    earlier (inr (same, inr (also, less))) = absurd (omega (arith, less))

    by : (c : PeerCall) → ((of_call (peer_name y k) ≡ of_call (peer_name z k)) × (c ≡ peer_call z k))
        ⊎ (IsEarlier (of_call (peer_name z k)) (of_call (peer_name y k)) × (c ≡ fresh_peer_call)) → (d : PeerStretch)
        → (((transfer_at y k).epoch ≡ (peer_transfer_of c.stage).epoch) × (d ≡ state_of (peer_transfer_of c.stage).side))
        ⊎ (((peer_transfer_of c.stage).epoch < (transfer_at y k).epoch) × (d ≡ fresh_peer))
        → ((peer_name y k ≡ peer_name z k) × (d ≡ peer_stretch z k)) ⊎ (IsEarlier (peer_name z k) (peer_name y k) × (d ≡ fresh_peer))
    by c (inl here) d (inl there) = inl (
      name_eq (peer_name y k) (peer_name z k) (ap (λ (n : Name). n.restarts) here.0) (ap (λ (n : Name). n.clears) here.0)
          (there.0 ∙ ap (λ (c : PeerCall). (peer_transfer_of c.stage).epoch) here.1),
      there.1 ∙ ap (λ (c : PeerCall). state_of (peer_transfer_of c.stage).side) here.1,
    )
    by c (inl here) d (inr there) = inr (
      inr (
        sym (ap (λ (n : Name). n.restarts) here.0),
        inr (
          sym (ap (λ (n : Name). n.clears) here.0),
          subst (λ (c : PeerCall). (peer_transfer_of c.stage).epoch < (transfer_at y k).epoch) here.1 there.0,
        ),
      ),
      there.1,
    )
    by c (inr ahead) d (inl there) = inr (earlier ahead.0, there.1 ∙ ap (λ (c : PeerCall). state_of (peer_transfer_of c.stage).side) ahead.1)
    by c (inr ahead) d (inr there) = inr (earlier ahead.0, there.1)

-- ---- what such an end handed up is a beginning of what the other handed down

module _ (y z : At PeerChannels) (rest away : ℕ → List Piece) (far : List Entry) (o : Order y z) (k : ℕ) where
  pub messages_begin : Written messages messages_in far z away → messages.live y k
      → IsPrefix (held_at messages y rest k).up (messages_in (under k (name_at messages y k) far)).down
  messages_begin h live =
      let b : StretchBeside y z k = stretch_beside y z k o live.0 live.1 in
      let first = carried_begin (peer_stretch y k).taken b.other.sent b.order.1.begins in
      subst (λ u. IsPrefix u (messages_in (under k (name_at messages y k) far)).down) (sym (messages_up y rest k))
      (prefix_more (carried (peer_stretch y k).taken) (carried b.other.sent) (by b.other b.at).0 (by b.other b.at).1 first)
    where
      by : (x : PeerStretch) → ((peer_name y k ≡ peer_name z k) × (x ≡ peer_stretch z k)) ⊎ (IsEarlier (peer_name z k) (peer_name y k) × (x ≡ fresh_peer))
          → IsPrefix (carried x.sent) (messages_in (under k (name_at messages y k) far)).down
      by x (inl here) =
          subst (λ (n : Name). IsPrefix (carried x.sent) (messages_in (under k n far)).down) (sym here.0)
          (subst (λ (l : Lists _). IsPrefix (carried x.sent) l.down) (sym (h.held k))
          (subst (λ (s : PeerStretch). IsPrefix (carried s.sent) (held_at messages z away k).down) (sym here.1) (messages_down z away k)))
      by x (inr ahead) = subst (λ (s : PeerStretch). IsPrefix (carried s.sent) (messages_in (under k (name_at messages y k) far)).down) (sym ahead.1)
          ((messages_in (under k (name_at messages y k) far)).down, refl)

  pub interrupts_begin : Written interrupts interrupts_in far z away → interrupts.live y k
      → IsPrefix (held_at interrupts y rest k).up (interrupts_in (under k (name_at interrupts y k) far)).down
  interrupts_begin h live =
      let b : StretchBeside y z k = stretch_beside y z k o live.0 live.1 in
      subst (λ (l : Lists (List ℕ)). IsPrefix l.up (interrupts_in (under k (name_at interrupts y k) far)).down) (sym (interrupts_both y rest k))
      (prefix_more (peer_stretch y k).int_up b.other.int_down (by b.other b.at).0 (by b.other b.at).1 b.order.1.interrupts)
    where
      by : (x : PeerStretch) → ((peer_name y k ≡ peer_name z k) × (x ≡ peer_stretch z k)) ⊎ (IsEarlier (peer_name z k) (peer_name y k) × (x ≡ fresh_peer))
          → IsPrefix x.int_down (interrupts_in (under k (name_at interrupts y k) far)).down
      by x (inl here) =
          subst (λ (n : Name). IsPrefix x.int_down (interrupts_in (under k n far)).down) (sym here.0)
          (subst (λ (l : Lists (List ℕ)). IsPrefix x.int_down l.down) (sym (h.held k ∙ interrupts_both z away k))
          (subst (λ (s : PeerStretch). IsPrefix s.int_down (peer_stretch z k).int_down) (sym here.1)
          (prefix_more (peer_stretch z k).int_down (peer_stretch z k).int_down [] (append_nil (peer_stretch z k).int_down)
          ([], append_nil (peer_stretch z k).int_down))))
      by x (inr ahead) = subst (λ (s : PeerStretch). IsPrefix s.int_down (interrupts_in (under k (name_at interrupts y k) far)).down) (sym ahead.1)
          ((interrupts_in (under k (name_at interrupts y k) far)).down, refl)

  pub calls_begin : Written calls calls_in far z away → calls.live y k
      → IsPrefix (held_at calls y rest k).up (calls_in (under k (name_at calls y k) far)).down
  calls_begin h live = (let b : CallBeside y z k = call_beside y z k o live in by b.other b.at b.order.up)
    where
      by : (x : PeerCall) → ((of_call (peer_name y k) ≡ of_call (peer_name z k)) × (x ≡ peer_call z k))
          ⊎ (IsEarlier (of_call (peer_name z k)) (of_call (peer_name y k)) × (x ≡ fresh_peer_call)) → IsPrefix (peer_call y k).indicated x.made
          → IsPrefix (peer_call y k).indicated (calls_in (under k (name_at calls y k) far)).down
      by x (inl here) up =
          subst (λ (n : Name). IsPrefix (peer_call y k).indicated (calls_in (under k n far)).down) (sym here.0)
          (subst (λ (l : Lists _). IsPrefix (peer_call y k).indicated l.down) (sym (h.held k))
          (subst (λ (c : PeerCall). IsPrefix (peer_call y k).indicated c.made) here.1 up))
      by x (inr ahead) up =
          let none : IsPrefix (peer_call y k).indicated [] = subst (λ (c : PeerCall). IsPrefix (peer_call y k).indicated c.made) ahead.1 up in
          prefix_more (peer_call y k).indicated [] (calls_in (under k (name_at calls y k) far)).down refl none

-- ---- what has arrived

-- an end that is out has no open circuit
pub out_shut : (l : Layer) (k : ℕ) → l ≡ rested l → is_open (l.circuits k) ≡ true → ⊥
out_shut l k same is = true≢false (sym is ∙ ap (λ (l : Layer). is_open (l.circuits k)) same)

-- where the end is open no restart, clear or reset of its own is out
pub open_live : (y : At PeerChannels) (k : ℕ) → is_open_there y.side k ≡ true → IsLive y k × (has_left (transfer_at y k).side ≡ false)
open_live y k is = by y.side is
  where
    open_not : (b : Bool) → not b ≡ true → b ≡ false
    open_not false is = refl
    open_not true is = absurd (true≢false (sym is))

    stage : (a : Stage (At PeerStretch)) → is_open_stage a ≡ true → has_left (peer_transfer_of a).side ≡ false
    stage (Talking t b at) is = open_not (has_left at.side) is
    stage a is = absurd (true≢false (sym is))

    call : (n : Side PeerCall) → is_open_call n ≡ true → (has_left n ≡ false) × (has_left (peer_transfer_of (state_of n).stage).side ≡ false)
    call (Live n) is = (refl, stage n.stage is)
    call (Left n) is = absurd (true≢false (sym is))

    by : (side : Side PeerChannels) → is_open_there side k ≡ true
        → (let y : At PeerChannels = record { epoch = y.epoch; side = side } in IsLive y k × (has_left (transfer_at y k).side ≡ false))
    by (Live x) is = (let c = call (x k).side is in ((refl, c.0), c.1))
    by (Left x) is = absurd (true≢false (sym is))

-- Of a stretch that is open at both ends, with nothing on the way to the other: both count it alike, and what ours handed down in it was taken, of messages
-- where none waits.
pub record AllTaken (k : ℕ) (l : Layer) (entries : List Entry) (z : At PeerChannels) : Type 0 where
  pub name : name_of l k ≡ peer_name z k
  pub messages : waits (l.circuits k) ≡ 0 → carried (peer_stretch z k).taken ≡ (messages_in (under k (name_of l k) entries)).down
  pub interrupts : (peer_stretch z k).int_up ≡ (interrupts_in (under k (name_of l k) entries)).down

pub all_taken : (most : ℕ) (l : Layer) (y : At PeerChannels) (rest : ℕ → List Piece) (z : At PeerChannels) (entries : List Entry) (k : ℕ)
    (v : List Packet) → SeesLayer most l y rest → Written messages messages_in entries y rest → Written interrupts interrupts_in entries y rest
    → Meeting k y z v → is_open (l.circuits k) ≡ true → AllTaken k l entries z
all_taken most l y rest z entries k v sees m i both is =
    let here : name_of l k ≡ peer_name y k = name_shown most l y rest k sees in
    let o : OpenHere l y rest k = open_here most l y rest k sees is in
    let there = both.stretch.kept.there in
    let sent : (peer_stretch y k).sent ≡ (peer_stretch z k).taken = there.line.flow ∙ append_nil (peer_stretch z k).taken in
    let held_m : messages_in (under k (name_of l k) entries) ≡ record {
      down = carried ((peer_stretch y k).sent ++ rest k);
      up = carried (peer_stretch y k).taken;
    } = ap (λ (n : Name). messages_in (under k n entries)) here ∙ m.held k ∙ o.shown.messages in
    let held_i : interrupts_in (under k (name_of l k) entries) ≡ record { down = (peer_stretch y k).int_down; up = (peer_stretch y k).int_up } =
    ap (λ (n : Name). interrupts_in (under k n entries)) here ∙ i.held k ∙ o.shown.interrupts in
    record {
      name = here ∙ name_eq (peer_name y k) (peer_name z k) both.restarts both.clears both.stretch.epochs;
      messages = λ none.
          ap carried (sym sent) ∙ ap carried (sym (append_nil (peer_stretch y k).sent))
          ∙ ap (λ (ps : List Piece). carried ((peer_stretch y k).sent ++ ps))
          (sym (nothing_waits (peer_stretch y k).sent (rest k) o.shown.whole (sym o.shown.no_more ∙ none)))
          ∙ sym (ap (λ (l : Lists _). l.down) held_m);
      interrupts = sym (there.ints.flow ∙ append_nil (peer_stretch z k).int_up) ∙ sym (ap (λ (l : Lists _). l.down) held_i);
    }
