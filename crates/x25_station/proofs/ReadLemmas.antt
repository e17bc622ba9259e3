-- Whatever happens to two layers, what they put fits, and so is read again.
use Rattle.x25_station.proofs.Names.{◌≡◌, ℕ, zero, suc, ◌<◌, ◌≤◌, List, [], ◌∷◌, ◌++◌, option_to_list, Option, Some, None, Bool, true, false, nat_le, ◌==◌}
use Rattle.x25_station.proofs.Names.{if◌then◌else◌, refl, arith, and_parts, leb-true, Role, Dte, Dce, Done, Calls, outcome, pulled, may_restart_for, Circuit}
use Rattle.x25_station.proofs.Names.{answers, LayerRequest, Asks, Dials, Restarts, PullsAll, LayerOutcome, Accepted, Declined, free_channel, where_room}
use Rattle.x25_station.proofs.Names.{if_at_once, puts_at_once, outcome_on, dialled, restarted_for, outcome_ready, outcome_in, layer_outcome, layer_pulled}
use Rattle.x25_station.proofs.Names.{highest_free, lowest_free, first_of, first_free, where_callable, answers_in, layer_answers, goes_up, packet_on}
use Rattle.x25_station.proofs.Names.{LayerSettings, Layer, LayerAnswer, is_channel, put_at, restarting_from, answers_on, drops, answers_ready}
use Rattle.x25_station.proofs.Names.{answers_restarting, Ranges, TwoLayers, Move, HandsUp, handed_up, requested, moves_in, moves, PlainPacket, call, accept}
use Rattle.x25_station.proofs.Names.{clear, clear_conf, user_data, rr, rnr, interrupt, interrupt_conf, reset, reset_conf, restart, restart_conf}
use Rattle.x25_circuit.specs.{Calling.{Outcome, Refused}, Circuit.{begun}, Hearing.{cause_at}}
use Rattle.x25_layer.specs.{Layer.{restart_cause}, Ranges.{may_call}, laws.PeerJoined.{PeerJoined, our_end, Happens, Ours, Theirs}}
use Rattle.x25_layer.specs.laws.TwoLayers.{start, End, Requests, Pulls, GoesDown, EndMove, pulled_in, turned, settings_of, happens, run, started}
use Rattle.x25_station.proofs.CircuitLemmas.{Agreed, CircuitFits, MayGive, AnswerFits, answers_fit, OutcomeFits, outcome_fits, PulledFits, pulled_fits}
use Rattle.x25_station.proofs.{FieldLemmas.{Fits, IsOn, moved_fits, moved_on, readable}, Names.{ReadsWhatIsSpelled, TakesWhatIsSpelled, may_ask}}
use Rattle.x25_station.specs.laws.ReadLaw.{BringsOctets, IsReachedByOctets, at_start, goes_on, PutsBesidePeersAreReadable, AreReadable, RequestsOctets}
use Rattle.x25_station.specs.laws.ReadLaw.{MovesOctets, BringOctets, PutsAreReadable}
use Rattle.x25_circuit.specs.declared.error.CircuitError.TheVariants as circuit_error
use Rattle.x25_layer.specs.declared.error.LayerError.TheVariants as error

-- each channel's circuit fits, and so does each packet
abbrev ChannelsFit : Bool → (ℕ → Circuit) → Type 0
ChannelsFit wide circuits = (k : ℕ) → CircuitFits wide (circuits k)

module _ (wide long_data : Bool) where
  abbrev PacketFits : PlainPacket → Type 0
  PacketFits p = Fits wide long_data p × IsOn p

  abbrev AllFit : List PlainPacket → Type 0
  AllFit [] = Unit {0}
  AllFit (p ∷ ps) = PacketFits p × AllFit ps

  abbrev OneFits : Option PlainPacket → Type 0
  OneFits o = AllFit (option_to_list o)

  all_fit_append : (a b : List PlainPacket) → AllFit a → AllFit b → AllFit (a ++ b)
  all_fit_append [] b f g = g
  all_fit_append (p ∷ a) b f g = (f.0, all_fit_append a b f.1 g)

  put_fits : (circuits : ℕ → Circuit) (h : ℕ) (x : Circuit) → ChannelsFit wide circuits → CircuitFits wide x → ChannelsFit wide (put_at circuits h x)
  put_fits circuits h x all f k = test (k == h)
    where
      test : (b : Bool) → CircuitFits wide (if b then x else circuits k)
      test true = f
      test false = all k

  on_fits : (h : ℕ) (o : Option PlainPacket) → (1 ≤ h) × (h ≤ 4095) → MayGive wide long_data o → OneFits (packet_on h o)
  on_fits h None low may = tt
  on_fits h (Some p) low may = ((moved_fits wide long_data h p may.1, moved_on h p may.0 low.0 low.1), tt)

  channel_low : (n : Ranges) (h : ℕ) → n.count ≤ 4095 → is_channel n h ≡ true → (1 ≤ h) × (h ≤ 4095)
  channel_low n h few is =
      let parts = and_parts (nat_le 1 h) (nat_le h n.count) is in
      let low : 1 ≤ h = leb-true 1 h parts.0 in
      let high : h ≤ n.count = leb-true h n.count parts.1 in
      (low, omega (arith, high, few))

  -- ---- answers

  record LayerFits (a : LayerAnswer) : Type 0 where
    next : ChannelsFit wide a.next.circuits
    owed : OneFits a.owed

  begun_fits : ChannelsFit wide (λ k. begun)
  begun_fits k = (tt, refl)

  on_restart : (cause diagnostic : ℕ) → IsOn (restart cause diagnostic)
  on_restart cause diagnostic has = absurd has

  on_restart_conf : IsOn restart_conf
  on_restart_conf has = absurd has

  cause_low : (r : Role) → cause_at r 1 < 256
  cause_low Dte = omega arith
  cause_low Dce = omega arith

  channel_answers : Agreed → (c : LayerSettings) (restarts : ℕ) (circuits : ℕ → Circuit) (h : ℕ) (p : PlainPacket) → c.channels.count ≤ 4095
      → ChannelsFit wide circuits
      → LayerFits (if is_channel c.channels h then answers_on restarts circuits h (answers c.circuit (circuits h) p) else drops false restarts circuits)
  channel_answers laws c restarts circuits h p few all = test (is_channel c.channels h) refl
    where
      a : AnswerFits wide long_data (answers c.circuit (circuits h) p)
      a = answers_fit wide long_data laws c.circuit (circuits h) p (all h)

      test : (b : Bool) → is_channel c.channels h ≡ b
          → LayerFits (if b then answers_on restarts circuits h (answers c.circuit (circuits h) p) else drops false restarts circuits)
      test true is = record {
        next = put_fits circuits h (answers c.circuit (circuits h) p).next all a.next;
        owed = on_fits h (answers c.circuit (circuits h) p).owed (channel_low c.channels h few is) a.owed;
      }
      test false is = record { next = all; owed = tt }

  ready_answers : Agreed → (c : LayerSettings) (restarts : ℕ) (circuits : ℕ → Circuit) (p : PlainPacket) → c.channels.count ≤ 4095 → ChannelsFit wide circuits
      → LayerFits (answers_ready c restarts circuits p)
  ready_answers laws c restarts circuits (restart cause diagnostic) few all = record { next = begun_fits; owed = ((tt, on_restart_conf), tt) }
  ready_answers laws c restarts circuits restart_conf few all =
      record { next = begun_fits; owed = (((cause_low c.circuit.role, omega arith), on_restart (cause_at c.circuit.role 1) 17), tt) }
  ready_answers laws c restarts circuits (call h called calling facilities user) few all =
      channel_answers laws c restarts circuits h (call h called calling facilities user) few all
  ready_answers laws c restarts circuits (accept h facilities) few all = channel_answers laws c restarts circuits h (accept h facilities) few all
  ready_answers laws c restarts circuits (clear h cause diagnostic) few all = channel_answers laws c restarts circuits h (clear h cause diagnostic) few all
  ready_answers laws c restarts circuits (clear_conf h) few all = channel_answers laws c restarts circuits h (clear_conf h) few all
  ready_answers laws c restarts circuits (user_data h q m ps pr user) few all = channel_answers laws c restarts circuits h (user_data h q m ps pr user) few all
  ready_answers laws c restarts circuits (rr h pr) few all = channel_answers laws c restarts circuits h (rr h pr) few all
  ready_answers laws c restarts circuits (rnr h pr) few all = channel_answers laws c restarts circuits h (rnr h pr) few all
  ready_answers laws c restarts circuits (interrupt h user) few all = channel_answers laws c restarts circuits h (interrupt h user) few all
  ready_answers laws c restarts circuits (interrupt_conf h) few all = channel_answers laws c restarts circuits h (interrupt_conf h) few all
  ready_answers laws c restarts circuits (reset h cause diagnostic) few all = channel_answers laws c restarts circuits h (reset h cause diagnostic) few all
  ready_answers laws c restarts circuits (reset_conf h) few all = channel_answers laws c restarts circuits h (reset_conf h) few all

  dropped : (restarts : ℕ) (circuits : ℕ → Circuit) → ChannelsFit wide circuits → LayerFits (drops true restarts circuits)
  dropped restarts circuits all = record { next = all; owed = tt }

  restarting_answers : (restarts : ℕ) (circuits : ℕ → Circuit) (p : PlainPacket) → ChannelsFit wide circuits
      → LayerFits (answers_restarting restarts circuits p)
  restarting_answers restarts circuits (restart cause diagnostic) all = record { next = begun_fits; owed = tt }
  restarting_answers restarts circuits restart_conf all = record { next = begun_fits; owed = tt }
  restarting_answers restarts circuits p all = dropped restarts circuits all

  layer_fits : Agreed → (c : LayerSettings) (l : Layer) (p : PlainPacket) → c.channels.count ≤ 4095 → ChannelsFit wide l.circuits
      → LayerFits (layer_answers c l p)
  layer_fits laws c l p few all = by l.restarting
    where
      by : (b : Bool) → LayerFits (answers_in c b l.restarts l.circuits p)
      by true = restarting_answers l.restarts l.circuits p all
      by false = ready_answers laws c l.restarts l.circuits p few all

  -- ---- calls

  abbrev LayerOutcomeFits : LayerOutcome → Type 0
  LayerOutcomeFits (Accepted next packet) = ChannelsFit wide next.circuits × OneFits packet
  LayerOutcomeFits (Declined e) = Unit {0}

  room_fits : (b : Bool) (o : LayerOutcome) → LayerOutcomeFits o → LayerOutcomeFits (where_room b o)
  room_fits true o f = tt
  room_fits false o f = f

  at_once_fits : (a b : Bool) (o : LayerOutcome) → LayerOutcomeFits o → LayerOutcomeFits (if_at_once a b o)
  at_once_fits true b o f = room_fits b o f
  at_once_fits false b o f = f

  outcome_on_fits : (restarts : ℕ) (circuits : ℕ → Circuit) (h : ℕ) (o : Outcome) → (1 ≤ h) × (h ≤ 4095) → ChannelsFit wide circuits
      → OutcomeFits wide long_data o → LayerOutcomeFits (outcome_on restarts circuits h o)
  outcome_on_fits restarts circuits h (Done next packet) low all f = (put_fits circuits h next all f.0, on_fits h packet low f.1)
  outcome_on_fits restarts circuits h (Refused e) low all f = tt

  abbrev InRange : ℕ → Option ℕ → Type 0
  InRange n None = Unit {0}
  InRange n (Some h) = (1 ≤ h) × (h ≤ n)

  range_more : (n : ℕ) (o : Option ℕ) → InRange n o → InRange (suc n) o
  range_more n None r = tt
  range_more n (Some h) r = (r.0, omega (arith, r.1))

  highest_in : (circuits : ℕ → Circuit) (n : ℕ) → InRange n (highest_free circuits n)
  highest_in circuits zero = tt
  highest_in circuits (suc n) = test (highest_in circuits n) _
    where
      test : InRange n (highest_free circuits n) → (b : Bool) → InRange (suc n) (if b then Some (suc n) else highest_free circuits n)
      test r true = (omega arith, omega arith)
      test r false = range_more n (highest_free circuits n) r

  first_in : (n : ℕ) (o : Option ℕ) (b : Bool) → InRange n o → InRange (suc n) (first_of o b (suc n))
  first_in n (Some h) b r = (r.0, omega (arith, r.1))
  first_in n None true r = (omega arith, omega arith)
  first_in n None false r = tt

  lowest_in : (circuits : ℕ → Circuit) (n : ℕ) → InRange n (lowest_free circuits n)
  lowest_in circuits zero = tt
  lowest_in circuits (suc n) = first_in n (lowest_free circuits n) _ (lowest_in circuits n)

  first_free_in : (r : Role) (circuits : ℕ → Circuit) (n : ℕ) → InRange n (first_free r circuits n)
  first_free_in Dte circuits n = highest_in circuits n
  first_free_in Dce circuits n = lowest_in circuits n

  free_in : (r : Role) (circuits : ℕ → Circuit) (channels : Ranges) → InRange channels.count (free_channel r circuits channels)
  free_in r circuits channels = by (first_free r circuits channels.count) (first_free_in r circuits channels.count)
    where
      test : (h : ℕ) (b : Bool) → InRange channels.count (Some h) → InRange channels.count (if b then Some h else None)
      test h true x = x
      test h false x = tt

      by : (o : Option ℕ) → InRange channels.count o → InRange channels.count (where_callable r channels o)
      by None x = tt
      by (Some h) x = test h (may_call r channels h) x

  outcome_ready_fits : Agreed → (c : LayerSettings) → c.circuit.long_data ≡ long_data
      → (full : Bool) (restarts : ℕ) (circuits : ℕ → Circuit) (request : LayerRequest) → c.channels.count ≤ 4095 → ChannelsFit wide circuits
      → RequestsOctets request → may_ask wide request ≡ true
      → LayerOutcomeFits (outcome_ready c full restarts circuits request)
  outcome_ready_fits laws c same full restarts circuits (Asks h request) few all octets may = test (is_channel c.channels h) refl
    where
      test : (b : Bool) → is_channel c.channels h ≡ b
          → LayerOutcomeFits (if b then if_at_once (puts_at_once request) full (outcome_on restarts circuits h (outcome c.circuit (circuits h) request))
          else Declined error.NoSuchChannel)
      test true is =
          at_once_fits (puts_at_once request) full (outcome_on restarts circuits h (outcome c.circuit (circuits h) request))
          (outcome_on_fits restarts circuits h (outcome c.circuit (circuits h) request) (channel_low c.channels h few is) all
          (outcome_fits wide long_data laws c.circuit same (circuits h) h request (all h) octets may))
      test false is = tt
  outcome_ready_fits laws c same full restarts circuits (Dials called calling user proposal) few all octets may =
      by (free_channel c.circuit.role circuits c.channels) (free_in c.circuit.role circuits c.channels)
    where
      by : (o : Option ℕ) → InRange c.channels.count o → LayerOutcomeFits (dialled c full restarts circuits o called calling user proposal)
      by None r = tt
      by (Some h) r =
          room_fits full (outcome_on restarts circuits h (outcome c.circuit (circuits h) (Calls called calling user proposal)))
          (outcome_on_fits restarts circuits h (outcome c.circuit (circuits h) (Calls called calling user proposal)) (r.0, omega (arith, r.1, few)) all
          (outcome_fits wide long_data laws c.circuit same (circuits h) h (Calls called calling user proposal) (all h) octets refl))
  outcome_ready_fits laws c same full restarts circuits (Restarts cause diagnostic) few all octets may =
      room_fits full (restarted_for c.circuit.role restarts circuits cause diagnostic) (test (may_restart_for c.circuit.role cause))
    where
      test : (b : Bool) → LayerOutcomeFits
          (if b then Accepted (restarting_from restarts circuits) (Some (restart cause diagnostic)) else Declined (error.Circuit circuit_error.BadParameter))
      test true = (begun_fits, ((octets, on_restart cause diagnostic), tt))
      test false = tt
  outcome_ready_fits laws c same full restarts circuits PullsAll few all octets may = (all, tt)

  layer_outcome_fits : Agreed → (c : LayerSettings) → c.circuit.long_data ≡ long_data → (full : Bool) (l : Layer) (request : LayerRequest) → c.channels.count
      ≤ 4095 → ChannelsFit wide l.circuits → RequestsOctets request → may_ask wide request ≡ true
      → LayerOutcomeFits (layer_outcome c full l request)
  layer_outcome_fits laws c same full l request few all octets may = by l.restarting
    where
      by : (b : Bool) → LayerOutcomeFits (outcome_in c full b l.restarts l.circuits request)
      by true = tt
      by false = outcome_ready_fits laws c same full l.restarts l.circuits request few all octets may

  -- ---- worlds

  record EndFits (e : End) : Type 0 where
    layer : ChannelsFit wide e.layer.circuits
    given : AllFit e.given

  record WorldFits (w : TwoLayers) : Type 0 where
    near : EndFits w.near
    far : EndFits w.far

  requested_fits : (c : LayerSettings) (w : TwoLayers) (request : LayerRequest) (o : LayerOutcome) → WorldFits w → LayerOutcomeFits o
      → WorldFits (requested c w request o)
  requested_fits c w request (Accepted next packet) f g = record {
    near = record {
      layer = g.0;
      given = all_fit_append w.near.given (option_to_list packet) f.near.given g.1;
    };
    far = f.far;
  }
  requested_fits c w request (Declined e) f g = f

  handed_up_fits : Agreed → (c : LayerSettings) (w : TwoLayers) (back : List PlainPacket) → c.channels.count ≤ 4095 → WorldFits w
      → WorldFits (handed_up c w back)
  handed_up_fits laws c w [] few f = f
  handed_up_fits laws c w (packet ∷ back) few f =
      let a : LayerFits (layer_answers c w.near.layer packet) = layer_fits laws c w.near.layer packet few f.near.layer in
      record {
        near = record {
          layer = a.next;
          given = all_fit_append w.near.given (option_to_list (layer_answers c w.near.layer packet).owed) f.near.given a.owed;
        };
        far = f.far;
      }

  pulls_fit : (c : LayerSettings) (w : TwoLayers) (h : ℕ) → c.channels.count ≤ 4095 → WorldFits w
      → WorldFits (if is_channel c.channels h then pulled_in w (layer_pulled c w.near.layer h) else w)
  pulls_fit c w h few f = test (is_channel c.channels h) refl
    where
      p : PulledFits wide long_data (pulled c.circuit (w.near.layer.circuits h))
      p = pulled_fits wide long_data c.circuit (w.near.layer.circuits h) (f.near.layer h)

      test : (b : Bool) → is_channel c.channels h ≡ b → WorldFits (if b then pulled_in w (layer_pulled c w.near.layer h) else w)
      test true is = record {
        near = record {
          layer = put_fits w.near.layer.circuits h (pulled c.circuit (w.near.layer.circuits h)).next f.near.layer p.next;
          given = all_fit_append w.near.given (option_to_list (layer_pulled c w.near.layer h).packet) f.near.given
              (on_fits h (pulled c.circuit (w.near.layer.circuits h)).packet (channel_low c.channels h few is) p.packet);
        };
        far = f.far;
      }
      test false is = f

  moves_fit : Agreed → (c : LayerSettings) → c.circuit.long_data ≡ long_data → (w : TwoLayers) (move : Move) → c.channels.count ≤ 4095 → MovesOctets wide move
      → WorldFits w → WorldFits (moves c w move)
  moves_fit laws c same w move few octets f = by w.near.is_out move octets
    where
      by : (b : Bool) (m : Move) → MovesOctets wide m → WorldFits (moves_in c w b m)
      by true m octets = f
      by false (Requests full request) octets = requested_fits c w request (layer_outcome c full w.near.layer request) f
          (layer_outcome_fits laws c same full w.near.layer request few f.near.layer octets.0 octets.1)
      by false (Pulls h) octets = pulls_fit c w h few f
      by false HandsUp octets = handed_up_fits laws c w w.back few f
      by false GoesDown octets = record { near = record { layer = begun_fits; given = f.near.given }; far = f.far }

  turned_fits : (w : TwoLayers) → WorldFits w → WorldFits (turned w)
  turned_fits w f = record { near = f.far; far = f.near }

  happens_fits : Agreed → (n : Ranges) → n.count ≤ 4095 → (w : TwoLayers) (e : EndMove) → MovesOctets wide e.what → WorldFits w
      → WorldFits (happens long_data n w e)
  happens_fits laws n few w e octets f = test e.first
    where
      test : (b : Bool) → WorldFits (if b then moves (settings_of Dte long_data n) w e.what else turned (moves (settings_of Dce long_data n) (turned w) e.what))
      test true = moves_fit laws (settings_of Dte long_data n) refl w e.what few octets f
      test false = turned_fits (moves (settings_of Dce long_data n) (turned w) e.what)
          (moves_fit laws (settings_of Dce long_data n) refl (turned w) e.what few octets (turned_fits w f))

  run_fits : Agreed → (n : Ranges) → n.count ≤ 4095 → (events : List EndMove) (w : TwoLayers) → BringOctets wide events → WorldFits w
      → WorldFits (run long_data n events w)
  run_fits laws n few [] w octets f = f
  run_fits laws n few (e ∷ events) w octets f = run_fits laws n few events (happens long_data n w e) octets.1 (happens_fits laws n few w e octets.0 f)

  started_fits : (c : LayerSettings) → restart_cause c.circuit.role < 256 → EndFits (started (goes_up c))
  started_fits c low = record { layer = begun_fits; given = (((low, omega arith), on_restart (restart_cause c.circuit.role) 0), tt) }

  start_fits : (n : Ranges) → WorldFits (start long_data n)
  start_fits n = record { near = started_fits (settings_of Dte long_data n) (omega arith); far = started_fits (settings_of Dce long_data n) (omega arith) }

  all_readable : ReadsWhatIsSpelled → TakesWhatIsSpelled → (ps : List PlainPacket) → AllFit ps → AreReadable wide long_data ps
  all_readable reads takes [] f = tt
  all_readable reads takes (p ∷ ps) f = (readable reads takes wide long_data p f.0.0 f.0.1, all_readable reads takes ps f.1)

pub puts_are_readable : ReadsWhatIsSpelled → TakesWhatIsSpelled → Agreed → PutsAreReadable
puts_are_readable reads takes laws wide long_data n few events octets =
    let f : WorldFits wide long_data (run long_data n events (start long_data n)) =
    run_fits wide long_data laws n few events (start long_data n) octets (start_fits wide long_data n) in (
      all_readable wide long_data reads takes (run long_data n events (start long_data n)).near.given f.near.given,
      all_readable wide long_data reads takes (run long_data n events (start long_data n)).far.given f.far.given,
    )

-- ---- a layer beside any peer

happens_near : (wide long_data : Bool) → Agreed → (r : Role) (channels : Ranges) → channels.count ≤ 4095 → (w v : PeerJoined)
    → (h : Happens r long_data channels w v) → BringsOctets wide h → EndFits wide long_data w.near → EndFits wide long_data v.near
happens_near wide long_data laws r channels few w v (Ours move stays) octets f =
    (moves_fit wide long_data laws (settings_of r long_data channels) refl (our_end w) move few octets (record { near = f; far = f })).near
happens_near wide long_data laws r channels few w v (Theirs y out packets moves) octets f = f

reached_near : (wide long_data : Bool) → Agreed → (r : Role) (channels : Ranges) → channels.count ≤ 4095 → (w : PeerJoined)
    → IsReachedByOctets wide r long_data channels w → EndFits wide long_data w.near
reached_near wide long_data laws Dte channels few w at_start = started_fits wide long_data (settings_of Dte long_data channels) (omega arith)
reached_near wide long_data laws Dce channels few w at_start = started_fits wide long_data (settings_of Dce long_data channels) (omega arith)
reached_near wide long_data laws r channels few w (goes_on v u h event octets) =
    happens_near wide long_data laws r channels few v w event octets (reached_near wide long_data laws r channels few v h)

pub puts_beside_peers : ReadsWhatIsSpelled → TakesWhatIsSpelled → Agreed → PutsBesidePeersAreReadable
puts_beside_peers reads takes laws wide r long_data channels few w reached =
    all_readable wide long_data reads takes w.near.given (reached_near wide long_data laws r channels few w reached).given
