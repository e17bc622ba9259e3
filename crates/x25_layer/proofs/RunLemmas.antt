-- Two layers of ours are two ends that keep the rules, in each run.
use Rattle.x25_layer.proofs.Names.{◌≡◌, ◌⊎◌, inl, inr, ℕ, List, [], ◌∷◌, ◌++◌, Bool, true, false, if◌then◌else◌, refl, sym, ap, subst, ◌∙◌, Role, Dte, Dce}
use Rattle.x25_layer.proofs.Names.{PlainPacket, Piece, Side, Live, Left, At, state_of, left, LayerPacket, Ranges, bare_layer, bare_layers, AreQuiet}
use Rattle.x25_layer.proofs.Names.{calls_in, messages_in, interrupts_in, Lists, Handed, Entry, End, TwoLayers, Move, GoesDown, EndMove}
use Rattle.x25_layer.proofs.Names.{moves, moves_in, turned, happens, run, start, settings_of, KeepsOrder}
use Rattle.x25_handshakes.proofs.{ChannelRelation.{IsCalled}, EndDeeds.{went_keeps}, HandshakeLemmas.{ext_step, both_requests}, HandshakeRelation.{Extended}}
use Rattle.x25_handshakes.proofs.{LayersRelation.{two_layers_level}, TwoPeerLemmas.{two_layers_order}}
use Rattle.x25_handshakes.proofs.PeerLayerLemmas.{all_channels_fresh, layer_next, two_layers_does, two_layers_flip, two_layers_takes}
use Rattle.x25_handshakes.specs.laws.{Layers.{Restart}, PeerLayer.{PeerChannels, peer_fresh}, PeerLayers.{other_role}}
use Rattle.x25_layer.proofs.Ends.{Known}
use Rattle.x25_layer.proofs.EndLemmas.{Stands, Moved, bare_more, quiet_more, end_moves}
use Rattle.x25_layer.proofs.HistoryLemmas.{messages, interrupts, calls, Begin, begin_on, messages_listed, interrupts_listed, calls_listed}
use Rattle.x25_layer.proofs.{LayerLemmas.{true≢false}, OrderLemmas.{Order, messages_begin, interrupts_begin, calls_begin}}
use Rattle.x25_layer.specs.laws.PeerJoined.{AreConfigured}
use Rattle.x25_handshakes.proofs.LayersRelation as relation

-- ---- two ends, of which each may be out

abbrev pub Related : Role → At PeerChannels → List LayerPacket → List LayerPacket → At PeerChannels → Type 0
Related r x L K y = relation.TwoLayers IsCalled IsCalled r x L K y

abbrev pub EndsRelated : Role → Side (At PeerChannels) → List LayerPacket → List LayerPacket → Side (At PeerChannels) → Type 0
EndsRelated r x L K y = Extended (λ z. Unit {0}) (λ z. Unit {0}) (Related r) x L K y

pub ends_some : (r : Role) (x : At PeerChannels) (L K : List LayerPacket) (y : Side (At PeerChannels)) → EndsRelated r (Live x) L K y
    → (v : List LayerPacket) × Related r x v K (state_of y)
ends_some r x L K (Live z) h = (L, h)
ends_some r x L K (Left z) h = (h.0, h.2)

ends_stop : (r : Role) (x : At PeerChannels) (L K : List LayerPacket) (y : Side (At PeerChannels)) → EndsRelated r (Live x) L K y
    → EndsRelated r (Left x) L K y
ends_stop r x L K (Live z) h = (K, tt, h)
ends_stop r x L K (Left z) h = (h.0, K, h.2)

ends_flip : (r : Role) (x : Side (At PeerChannels)) (L K : List LayerPacket) (y : Side (At PeerChannels)) → EndsRelated r x L K y
    → EndsRelated (other_role r) y K L x
ends_flip r (Live x) L K (Live y) h = two_layers_flip r h
ends_flip r (Left x) L K (Live y) h = (h.0, h.1, two_layers_flip r h.2)
ends_flip r (Live x) L K (Left y) h = (h.0, h.1, two_layers_flip r h.2)
ends_flip r (Left x) L K (Left y) h = (h.1, h.0, two_layers_flip r h.2)

-- ---- a run

-- The first end has this role.
pub record Run (r : Role) (channels : Ranges) (w : TwoLayers) : Type 0 where
  pub near : Side (At PeerChannels)
  pub far : Side (At PeerChannels)
  pub rest : ℕ → List Piece
  pub away : ℕ → List Piece
  pub stands : Stands channels w.near near rest
  pub there : Stands channels w.far far away
  pub related : EndsRelated r near (bare_layers channels.message w.out) (bare_layers channels.message w.back) far
  pub out_quiet : AreQuiet channels w.out
  pub back_quiet : AreQuiet channels w.back
  pub order : KeepsOrder w
  pub messages : Begin messages_in w.near.entries w.far.entries
  pub interrupts : Begin interrupts_in w.near.entries w.far.entries
  pub calls : Begin calls_in w.near.entries w.far.entries

begin_turned : {M : Type 0} {lists : Handed → Lists M} {e f : List Entry} → Begin lists e f → Begin lists f e
begin_turned h = record { up = h.there; there = h.up }

pub run_turned : {r : Role} {channels : Ranges} {w : TwoLayers} → Run r channels w → Run (other_role r) channels (turned w)
run_turned {r} {channels} {w} h = record {
  near = h.far;
  far = h.near;
  rest = h.away;
  away = h.rest;
  stands = h.there;
  there = h.stands;
  related = ends_flip r h.near (bare_layers channels.message w.out) (bare_layers channels.message w.back) h.far h.related;
  out_quiet = h.back_quiet;
  back_quiet = h.out_quiet;
  order = record { near = h.order.far; far = h.order.near };
  messages = begin_turned h.messages;
  interrupts = begin_turned h.interrupts;
  calls = begin_turned h.calls;
}

all_configured : (channels : Ranges) (l : List PlainPacket) → AreQuiet channels l → AreConfigured channels l
all_configured channels [] h = tt
all_configured channels (p ∷ l) h = (h.0.1, all_configured channels l h.1)

module _ (known : Known) (r : Role) (long_data : Bool) (channels : Ranges) (w : TwoLayers) (far : Side (At PeerChannels)) (rest away : ℕ → List Piece)
    (there : Stands channels w.far far away) (out_quiet : AreQuiet channels w.out) (back_quiet : AreQuiet channels w.back) (order : KeepsOrder w)
    (of_messages : Begin messages_in w.near.entries w.far.entries) (of_interrupts : Begin interrupts_in w.near.entries w.far.entries)
    (of_calls : Begin calls_in w.near.entries w.far.entries) where
  abbrev out : List LayerPacket
  out = bare_layers channels.message w.out

  abbrev back : List LayerPacket
  back = bare_layers channels.message w.back

  -- the near end is up, and went on
  moved_run : (y : At PeerChannels) → Stands channels w.near (Live y) rest → EndsRelated r (Live y) out back far → (w₂ : TwoLayers)
      → Moved r channels w w₂ y rest → Run r channels w₂
  moved_run y stands related w₂ m =
      let sent = bare_layers channels.message m.put in
      let left = bare_layers channels.message w₂.back in
      let goes_on : EndsRelated r (Live m.end) (out ++ sent) left far =
      ext_step (λ z. Unit {0}) (λ z. Unit {0}) (Related r) y m.end sent out left far
      (λ v z k. went_keeps (λ x u t. Related r x u t z)
      (λ x d u t may k. two_layers_does IsCalled IsCalled r known.laws x.epoch x.side d may.0 may.1 u t z k)
      (λ p u t k. two_layers_takes IsCalled IsCalled r y.epoch y.side p u t z k) m.went v k) related in
      let o : Order m.end (state_of far) =
      two_layers_order IsCalled IsCalled r (ends_some r m.end (out ++ sent) left far goes_on).1 in
      let on_messages = begin_on messages messages_in messages_listed y rest m.end m.waiting w.near.entries m.entries w.far.entries m.step stands.of_messages
      (λ k live. messages_begin m.end (state_of far) m.waiting away w.far.entries o k there.of_messages live) of_messages in
      let on_interrupts = begin_on interrupts interrupts_in interrupts_listed y rest m.end m.waiting w.near.entries m.entries w.far.entries m.step
      stands.of_interrupts (λ k live. interrupts_begin m.end (state_of far) m.waiting away w.far.entries o k there.of_interrupts live) of_interrupts in
      let on_calls = begin_on calls calls_in calls_listed y rest m.end m.waiting w.near.entries m.entries w.far.entries m.step stands.of_calls
      (λ k live. calls_begin m.end (state_of far) m.waiting away w.far.entries o k there.of_calls live) of_calls in
      record {
        near = Live m.end;
        far = far;
        rest = m.waiting;
        away = away;
        stands = m.stands;
        there = subst (λ (e : End). Stands channels e far away) (sym m.far) there;
        related = subst (λ l. EndsRelated r (Live m.end) l left far)
            (sym (bare_more channels.message w.out m.put) ∙ ap (bare_layers channels.message) (sym m.out)) goes_on;
        out_quiet = subst (λ (l : List PlainPacket). AreQuiet channels l) (sym m.out) (quiet_more channels w.out m.put out_quiet m.quiet);
        back_quiet = tail m.back;
        order = m.order order;
        messages = entered messages_in on_messages;
        interrupts = entered interrupts_in on_interrupts;
        calls = entered calls_in on_calls;
      }
    where
      tail : ((w₂.back ≡ w.back) ⊎ ((p : PlainPacket) × (w.back ≡ p ∷ w₂.back))) → AreQuiet channels w₂.back
      tail (inl same) = subst (λ (l : List PlainPacket). AreQuiet channels l) (sym same) back_quiet
      tail (inr front) = (subst (λ (l : List PlainPacket). AreQuiet channels l) front.1 back_quiet).1

      entered : {M : Type 0} (lists : Handed → Lists M) → Begin lists (w.near.entries ++ m.entries) w.far.entries → Begin lists w₂.near.entries w₂.far.entries
      entered lists b = subst (λ (e : End). Begin lists w₂.near.entries e.entries) (sym m.far)
          (subst (λ (es : List Entry). Begin lists es w.far.entries) (sym m.near_entries) b)

  near_goes : (near : Side (At PeerChannels)) → Stands channels w.near near rest → EndsRelated r near out back far → (what : Move) (gone : Bool)
      → gone ≡ w.near.is_out → Run r channels (moves_in (settings_of r long_data channels) w gone what)
  near_goes near stands related what true is = record {
    near = near;
    far = far;
    rest = rest;
    away = away;
    stands = stands;
    there = there;
    related = related;
    out_quiet = out_quiet;
    back_quiet = back_quiet;
    order = order;
    messages = of_messages;
    interrupts = of_interrupts;
    calls = of_calls;
  }
  near_goes (Left y) stands related what false is = absurd (true≢false (sym (is ∙ stands.at.0)))
  near_goes (Live y) stands related GoesDown false is = record {
    near = Left y;
    far = far;
    rest = rest;
    away = away;
    stands = record {
      at = (refl, refl);
      quiet = record { given = stands.quiet.given; told = stands.quiet.told };
      of_messages = stands.of_messages;
      of_interrupts = stands.of_interrupts;
      of_calls = stands.of_calls;
    };
    there = there;
    related = ends_stop r y out back far related;
    out_quiet = out_quiet;
    back_quiet = back_quiet;
    order = record { near = order.near; far = order.far };
    messages = of_messages;
    interrupts = of_interrupts;
    calls = of_calls;
  }
  near_goes (Live y) stands related other false is =
      moved_run y stands related (moves_in (settings_of r long_data channels) w false other)
      (end_moves IsCalled known r long_data channels w y rest stands (all_configured channels w.back back_quiet)
      (λ p K front. (let some = ends_some r y out back far related in
      layer_next IsCalled IsCalled r y.epoch y.side (bare_layer channels.message p) some.0 (bare_layers channels.message K) (state_of far)
      (subst (λ l. Related r y some.0 l (state_of far)) (ap (bare_layers channels.message) front) some.1)))
      other tt)

near_moves : Known → (r : Role) (long_data : Bool) (channels : Ranges) (w : TwoLayers) (what : Move) → Run r channels w
    → Run r channels (moves (settings_of r long_data channels) w what)
near_moves known r long_data channels w what h =
    near_goes known r long_data channels w h.far h.rest h.away h.there h.out_quiet h.back_quiet h.order h.messages h.interrupts h.calls h.near h.stands
    h.related what w.near.is_out refl

in_run_on : Known → (long_data : Bool) (channels : Ranges) (es : List EndMove) (w : TwoLayers) → Run Dte channels w → Run Dte channels (run long_data channels es w)
in_run_on known long_data channels [] w h = h
in_run_on known long_data channels (e ∷ es) w h = in_run_on known long_data channels es (happens long_data channels w e) (by e.first)
  where
    by : (first : Bool) → Run Dte channels (if first then moves (settings_of Dte long_data channels) w e.what
        else turned (moves (settings_of Dce long_data channels) (turned w) e.what))
    by true = near_moves known Dte long_data channels w e.what h
    by false = run_turned (near_moves known Dce long_data channels (turned w) e.what (run_turned h))

begins : (long_data : Bool) (channels : Ranges) → Run Dte channels (start long_data channels)
begins long_data channels = record {
  near = Live (left 0 peer_fresh);
  far = Live (left 0 peer_fresh);
  rest = λ k. [];
  away = λ k. [];
  stands = record {
    at = (refl, record { restarting = refl; restarts = refl; circuits = λ k. refl });
    quiet = record { given = ((refl, λ none. absurd none), tt); told = tt };
    of_messages = record { held = λ k. refl; later = λ k m earlier. refl };
    of_interrupts = record { held = λ k. refl; later = λ k m earlier. refl };
    of_calls = record { held = λ k. refl; later = λ k m earlier. refl };
  };
  there = record {
    at = (refl, record { restarting = refl; restarts = refl; circuits = λ k. refl });
    quiet = record { given = ((refl, λ none. absurd none), tt); told = tt };
    of_messages = record { held = λ k. refl; later = λ k m earlier. refl };
    of_interrupts = record { held = λ k. refl; later = λ k m earlier. refl };
    of_calls = record { held = λ k. refl; later = λ k m earlier. refl };
  };
  related = record { hand = both_requests (two_layers_level IsCalled IsCalled Dte) (all_channels_fresh IsCalled IsCalled Dte) Restart refl 0 };
  out_quiet = ((refl, λ none. absurd none), tt);
  back_quiet = ((refl, λ none. absurd none), tt);
  order = record { near = refl; far = refl };
  messages = record { up = λ k m. ([], refl); there = λ k m. ([], refl) };
  interrupts = record { up = λ k m. ([], refl); there = λ k m. ([], refl) };
  calls = record { up = λ k m. ([], refl); there = λ k m. ([], refl) };
}

-- each run of two layers is one of two such ends
pub in_run : Known → (long_data : Bool) (channels : Ranges) (es : List EndMove) → Run Dte channels (run long_data channels es (start long_data channels))
in_run known long_data channels es = in_run_on known long_data channels es (start long_data channels) (begins long_data channels)
