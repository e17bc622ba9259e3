-- Each event of our end is what an end does that keeps the rules, where what comes is expected.
use Rattle.x25_layer.proofs.Names.{◌≡◌, ◌⊎◌, inl, inr, ℕ, List, [], ◌∷◌, ◌++◌, Option, Bool, true, false, if◌then◌else◌, option_to_list, refl, sym}
use Rattle.x25_layer.proofs.Names.{ap, subst, ◌∙◌, append_assoc, Role, PlainPacket, Piece, Side, Live, Left, At, state_of, Ranges, LayerSettings, Layer}
use Rattle.x25_layer.proofs.Names.{LayerNotice, LayerAnswer, is_channel, layer_answers, LayerRequest, PullsAll, LayerOutcome, Accepted, Declined, outcome_in}
use Rattle.x25_layer.proofs.Names.{layer_outcome, layer_pulled, bare_layer, bare_layers, AreQuiet, AreNoFaults, calls_in, messages_in, interrupts_in, Entry, End}
use Rattle.x25_layer.proofs.Names.{TwoLayers, entries_asked, entries_told, Move, Requests, Pulls, HandsUp, GoesDown, requested, pulled_in, handed_up, moves_in}
use Rattle.x25_layer.proofs.Names.{settings_of, KeepsOrder, IsQuietEnd, puts, answered}
use Rattle.x25_handshakes.proofs.{DeedLemmas.{none}, EndDeeds.{Went, Acted, Took}, PeerLayerLemmas.{LayerNext}}
use Rattle.x25_handshakes.specs.laws.{PeerCalls.{PeerCall}, PeerLayer.{PeerChannels, layer_taking}}
use Rattle.x25_layer.proofs.Ends.{circuit_at, Known, SeesLayer, StepOf, LayerGoes}
use Rattle.x25_layer.proofs.HistoryLemmas.{messages, interrupts, calls, Written, written_on, messages_listed, interrupts_listed, calls_listed}
use Rattle.x25_layer.proofs.LayerLemmas.{HeedsLayer, layer_follows, layer_heeds, layer_pulls}
use Rattle.x25_layer.proofs.{RowLemmas.{append_nil, still}, StepLemmas.{quiet_step}}
use Rattle.x25_layer.specs.{Layer.{rested}, laws.PeerJoined.{AreConfigured, StaysUp}}

-- the end is this one; an end that is out has stopped there
abbrev pub StandsAt : ℕ → End → Side (At PeerChannels) → (ℕ → List Piece) → Type 0
StandsAt most e (Live y) rest = (e.is_out ≡ false) × SeesLayer most e.layer y rest
StandsAt most e (Left y) rest = (e.is_out ≡ true) × (e.layer ≡ rested e.layer)

-- our end as it stands, with what its transcript has
pub record Stands (channels : Ranges) (e : End) (s : Side (At PeerChannels)) (rest : ℕ → List Piece) : Type 0 where
  pub at : StandsAt channels.message e s rest
  pub quiet : IsQuietEnd channels e
  pub of_messages : Written messages messages_in e.entries (state_of s) rest
  pub of_interrupts : Written interrupts interrupts_in e.entries (state_of s) rest
  pub of_calls : Written calls calls_in e.entries (state_of s) rest

-- an event at the near end, which stood at y and is up
pub record Moved (r : Role) (channels : Ranges) (w w₂ : TwoLayers) (y : At PeerChannels) (rest : ℕ → List Piece) : Type 0 where
  pub end : At PeerChannels
  pub waiting : ℕ → List Piece
  pub put : List PlainPacket
  pub out : w₂.out ≡ w.out ++ put
  pub went : Went r y (bare_layers channels.message w.back) end (bare_layers channels.message put) (bare_layers channels.message w₂.back)
  pub back : (w₂.back ≡ w.back) ⊎ ((p : PlainPacket) × (w.back ≡ p ∷ w₂.back))
  pub stands : Stands channels w₂.near (Live end) waiting
  pub far : w₂.far ≡ w.far
  pub quiet : AreQuiet channels put
  pub order : KeepsOrder w → KeepsOrder w₂
  pub entries : List Entry
  pub near_entries : w₂.near.entries ≡ w.near.entries ++ entries
  pub step : StepOf y rest end waiting entries

pub bare_more : (most : ℕ) (L o : List PlainPacket) → bare_layers most (L ++ o) ≡ bare_layers most L ++ bare_layers most o
bare_more most [] o = refl
bare_more most (x ∷ L) o = ap (λ l. bare_layer most x ∷ l) (bare_more most L o)

pub quiet_more : (channels : Ranges) (L o : List PlainPacket) → AreQuiet channels L → AreQuiet channels o → AreQuiet channels (L ++ o)
quiet_more channels [] o p q = q
quiet_more channels (x ∷ L) o p q = (p.0, quiet_more channels L o p.1 q)

no_faults_more : (L o : List LayerNotice) → AreNoFaults L → AreNoFaults o → AreNoFaults (L ++ o)
no_faults_more [] o p q = q
no_faults_more (x ∷ L) o p q = (p.0, no_faults_more L o p.1 q)

-- a world by the parts that a move without a packet writes anew
abbrev written_anew : TwoLayers → Bool → Bool → List PlainPacket → List Entry → List PlainPacket → TwoLayers
written_anew w restarting gone given entries out = record {
  near = record {
    layer = record { restarting = restarting; restarts = w.near.layer.restarts; circuits = w.near.layer.circuits };
    is_out = gone;
    given = given;
    taken = w.near.taken;
    told = w.near.told;
    entries = entries;
  };
  far = w.far;
  out = out;
  back = w.back;
}

-- That all be pulled changes nothing itself: the pulls are moves of their own.
pulls_change_nothing : (c : LayerSettings) (full : Bool) (w : TwoLayers) → w.near.is_out ≡ false
    → requested c w PullsAll (layer_outcome c full w.near.layer PullsAll) ≡ w
pulls_change_nothing c full w up = by w.near.layer.restarting refl
  where
    by : (b : Bool) → w.near.layer.restarting ≡ b → requested c w PullsAll (outcome_in c full b w.near.layer.restarts w.near.layer.circuits PullsAll) ≡ w
    by true is = refl
    by false is =
        ap (λ b. written_anew w b false (w.near.given ++ []) (w.near.entries ++ []) (w.out ++ [])) (sym is)
        ∙ ap (λ b. written_anew w w.near.layer.restarting b (w.near.given ++ []) (w.near.entries ++ []) (w.out ++ [])) (sym up)
        ∙ ap (λ l. written_anew w w.near.layer.restarting w.near.is_out l (w.near.entries ++ []) (w.out ++ [])) (append_nil w.near.given)
        ∙ ap (λ l. written_anew w w.near.layer.restarting w.near.is_out w.near.given l (w.out ++ [])) (append_nil w.near.entries)
        ∙ ap (λ l. written_anew w w.near.layer.restarting w.near.is_out w.near.given w.near.entries l) (append_nil w.out)

module _ (r : Role) (channels : Ranges) (w : TwoLayers) (y : At PeerChannels) (rest : ℕ → List Piece) (h : Stands channels w.near (Live y) rest) where
  nothing_moved : Moved r channels w w y rest
  nothing_moved = record {
    end = y;
    waiting = rest;
    put = [];
    out = sym (append_nil w.out);
    went = Acted refl (none refl);
    back = inl refl;
    stands = h;
    far = refl;
    quiet = tt;
    order = λ o. o;
    entries = [];
    near_entries = sym (append_nil w.near.entries);
    step = quiet_step y rest y rest refl (λ k. still (circuit_at y k) (rest k));
  }

  -- it has gone to this layer, and put these packets
  put_moved : (l : Layer) (packet : Option PlainPacket) (es : List Entry) → LayerGoes channels.message channels y rest y [] l packet [] es
      → Moved r channels w (puts w l (option_to_list packet) es) y rest
  put_moved l packet es g =
      let o = option_to_list packet in
      record {
        end = g.end;
        waiting = g.waiting;
        put = o;
        out = refl;
        went = Acted refl g.heard;
        back = inl refl;
        stands = record {
          at = (refl, g.sees);
          quiet = record { given = quiet_more channels w.near.given o h.quiet.given g.quiet; told = h.quiet.told };
          of_messages = written_on messages messages_in messages_listed y rest g.end g.waiting w.near.entries es g.step h.of_messages;
          of_interrupts = written_on interrupts interrupts_in interrupts_listed y rest g.end g.waiting w.near.entries es g.step h.of_interrupts;
          of_calls = written_on calls calls_in calls_listed y rest g.end g.waiting w.near.entries es g.step h.of_calls;
        };
        far = refl;
        quiet = g.quiet;
        order = λ order. record { near = ap (λ l. l ++ o) order.near ∙ append_assoc w.far.taken w.out o; far = order.far };
        entries = es;
        near_entries = refl;
        step = g.step;
      }

  -- a packet was handed up
  took_moved : (p : PlainPacket) (K : List PlainPacket) → w.back ≡ p ∷ K → (a : LayerAnswer)
      → (let s = layer_taking r y.epoch y.side (bare_layer channels.message p) in
      LayerGoes channels.message channels y rest s.next s.out a.next a.owed a.notices (entries_told a.next a.notices))
      → Moved r channels w (answered w p K a) y rest
  took_moved p K front a g =
      let o = option_to_list a.owed in
      let es = entries_told a.next a.notices in
      record {
        end = g.end;
        waiting = g.waiting;
        put = o;
        out = refl;
        went = Took (bare_layer channels.message p) (ap (bare_layers channels.message) front) g.heard;
        back = inr (p, front);
        stands = record {
          at = (refl, g.sees);
          quiet = record {
            given = quiet_more channels w.near.given o h.quiet.given g.quiet;
            told = no_faults_more w.near.told a.notices h.quiet.told g.no_fault;
          };
          of_messages = written_on messages messages_in messages_listed y rest g.end g.waiting w.near.entries es g.step h.of_messages;
          of_interrupts = written_on interrupts interrupts_in interrupts_listed y rest g.end g.waiting w.near.entries es g.step h.of_interrupts;
          of_calls = written_on calls calls_in calls_listed y rest g.end g.waiting w.near.entries es g.step h.of_calls;
        };
        far = refl;
        quiet = g.quiet;
        order = λ order. record {
          near = ap (λ l. l ++ o) order.near ∙ append_assoc w.far.taken w.out o;
          far = order.far ∙ ap (λ l. w.near.taken ++ l) front ∙ sym (append_assoc w.near.taken (p ∷ []) K);
        };
        entries = es;
        near_entries = refl;
        step = g.step;
      }

module _ (H : PeerCall → Type 0) (known : Known) (r : Role) (long_data : Bool) (channels : Ranges) where
  abbrev c : LayerSettings
  c = settings_of r long_data channels

  -- An event at the near end, with the settings of its role; what comes to it is expected.
  pub end_moves : (w : TwoLayers) (y : At PeerChannels) (rest : ℕ → List Piece) → Stands channels w.near (Live y) rest → AreConfigured channels w.back
      → ((p : PlainPacket) (K : List PlainPacket) → w.back ≡ p ∷ K → LayerNext H r y.side (bare_layer channels.message p))
      → (what : Move) → StaysUp what → Moved r channels w (moves_in c w false what) y rest
  end_moves w y rest h ok next (Requests full request) stays = asked request
    where
      did : (request : LayerRequest) (d : LayerOutcome) → HeedsLayer c w.near.layer request d y rest → Moved r channels w (requested c w request d) y rest
      did request (Accepted l packet) g = put_moved r channels w y rest h l packet (entries_asked c w.near.layer l request) g
      did request (Declined e) g = nothing_moved r channels w y rest h

      asked : (request : LayerRequest) → Moved r channels w (requested c w request (layer_outcome c full w.near.layer request)) y rest
      asked PullsAll = subst (λ (v : TwoLayers). Moved r channels w v y rest) (sym (pulls_change_nothing c full w h.at.0)) (nothing_moved r channels w y rest h)
      asked other = did other (layer_outcome c full w.near.layer other) (layer_heeds known c full w.near.layer y rest other tt h.at.1)
  end_moves w y rest h ok next (Pulls k) stays = test (is_channel channels k) refl
    where
      test : (b : Bool) → is_channel channels k ≡ b → Moved r channels w (if b then pulled_in w (layer_pulled c w.near.layer k) else w) y rest
      test false other = nothing_moved r channels w y rest h
      test true there = put_moved r channels w y rest h (layer_pulled c w.near.layer k).next (layer_pulled c w.near.layer k).packet []
          (layer_pulls c w.near.layer y rest k there h.at.1)
  end_moves w y rest h ok next HandsUp stays = handed w.back refl
    where
      handed : (K : List PlainPacket) → w.back ≡ K → Moved r channels w (handed_up c w K) y rest
      handed [] front = nothing_moved r channels w y rest h
      handed (p ∷ K) front = took_moved r channels w y rest h p K front (layer_answers c w.near.layer p)
          (layer_follows H known c w.near.layer y rest p h.at.1 (subst (λ (l : List PlainPacket). AreConfigured channels l) front ok).0 (next p K front))
  end_moves w y rest h ok next GoesDown stays = absurd stays
