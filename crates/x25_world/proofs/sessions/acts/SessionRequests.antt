-- A command to the layer in a session, without or with something given: its own packet is put, and then what waits.
use Rattle.x25_world.proofs.Names.{◌≡◌, ℕ, suc, ◌==◌, ◌≤◌, ◌⊎◌, inl, inr, List, [], ◌∷◌, ◌++◌, Bool, true, Option, None, refl, sym, ap, ◌∙◌, subst, append-nil}
use Rattle.x25_world.proofs.Names.{arith, ◌&&◌, and_parts, append_cancel_left, Role, PlainPacket, is_up, Meeting, Sessions, octets_of, PlainGiven, may_give}
use Rattle.x25_world.proofs.Names.{Name, moves_all, pulls_of, OwnMove, apart_start, own_run, AreInOrder, Cfg, Settings, settings_from, layer_settings}
use Rattle.x25_world.proofs.Names.{layer_notices, suits, Step, Outcome, Did, Refused, requests, GivesOctets, station_with, IsKept, KeptBy, AreReadable}
use Rattle.x25_world.proofs.Names.{WorldError, World, Act, of_station, refusal_of, after, after_step, came_in, Gave, channel_for, gave_where, IsGiven}
use Rattle.x25_world.proofs.Names.{AreSomeOf, confirmed_in, link_of, Asks, SessionLaws, each_append, SessionGoes, spelled, spelled_with, PutsRead, puts_spelled}
use Rattle.x25_world.proofs.Names.{puts_up, puts_of, all_act, puts_go, pulls_asked, asked_leaves, Layer, LayerNotice, LayerRequest, layer_outcome, AreNoFaults}
use Rattle.x25_layer.specs.laws.{Apart.{Requests}, TwoLayers.{Requests as Requested}}
use Rattle.x25_line.proofs.ends.Meetings.{all_map}
use Rattle.x25_link.specs.{Link.{alone}, Outgoing.{waits}, Station.{Side}}
use Rattle.x25_peer.proofs.{Granted.{did_granted, gave_granted, suits_asks}, ReadLemmas.{readable_behind}, sessions.LinkSteps.{puts_spelled_with, stays_goes}}
use Rattle.x25_station.specs.{Step.{gives}, laws.JoinLaw.{MovesAs}, laws.ReadLaw.{RequestsOctets}}
use Rattle.x25_world.proofs.{Growing.{all_read, as_read, back_read, back_octets}, Known.{IsConfigured}}
use Rattle.x25_world.proofs.sessions.SessionBeside.{brought, AreTold, spelled_bring, FirstMayGo, spelled_with_bring, own_goes_first}
use Rattle.x25_world.proofs.sessions.{SessionCounts.{counted_in, CountNone}, SessionEntries.{ArePlain, outcome_plain, outcome_beside, outcome_counts}}
use Rattle.x25_world.proofs.sessions.SessionGoes.{same_or_not, IsNews, goes_on}
use Rattle.x25_world.proofs.sessions.SessionJoined.{HasMet, PairIsInOrder, PairsAreInOrder, SessionsJoined, Goes, gave_none, stays}
use Rattle.x25_world.proofs.sessions.SessionKnown.{met_in_order, pair_ends, own_quiet, own_readable, nothing_in_order}
use Rattle.x25_world.proofs.sessions.SessionReaches.{Asked, asks_puts, then_puts}
use Rattle.x25_world.proofs.sessions.SessionTrace.{layer_of, Done, moved, own, own_goes, same_number, pair_at, events_of, pair_more, pair_same, TakeNothing}
use Rattle.x25_world.proofs.sessions.SessionTrace.{nothing_goes, BringOctets, own_pulls, pulls_take_nothing, pulls_bring_octets, near_pulls}
use Rattle.x25_line.specs.laws.Stations as line
use Rattle.x25_line.specs.laws.Sessions as links
use Rattle.x25_circuit.specs.Calling as circuit
use Rattle.x25_layer.specs.Calls as asked
use Rattle.x25_layer.specs.laws.TwoLayers as layer
use Rattle.x25_layer.specs.laws.Apart as apart
use Rattle.x25_station.specs.Command as command

-- what calls and acceptances say changes no octet of the user
pub said_octets : (says : Bool) (l : Layer) (request : LayerRequest) → RequestsOctets request → RequestsOctets (command.said_by says l request)
said_octets says l (asked.Asks h (circuit.Calls called calling user proposal)) octets = octets
said_octets says l request octets = octets

no_faults_behind : (xs ys : List LayerNotice) → AreNoFaults (xs ++ ys) → AreNoFaults ys
no_faults_behind [] ys h = h
no_faults_behind (x ∷ xs) ys h = no_faults_behind xs ys h.1

-- ---- more moves of the near end in the session that stands

module _ (laws : SessionLaws) (cfg : Cfg) (end : Role) (trace : List Done) (session : ℕ) (moves : List OwnMove) where
  abbrev trace_on : List Done
  trace_on = trace ++ moved end session moves

  -- two sessions that are in order stay so
  pub pair_goes : (m : ℕ) → PairIsInOrder cfg end trace session m
      → AreInOrder cfg.long_data cfg.channels (events_of end moves) (pair_ends cfg end session m trace) → PairIsInOrder cfg end trace_on session m
  pair_goes m order next =
      rw (pair_more end session m trace moves)
      ((laws.behind cfg.long_data cfg.channels (pair_at end session m trace) (events_of end moves) (apart_start cfg.long_data cfg.channels)).order order
      next)

  pub pair_stays : (n m : ℕ) → (n ≡ session → ⊥) → PairIsInOrder cfg end trace n m → PairIsInOrder cfg end trace_on n m
  pair_stays n m differs order =
      rw (pair_same end n m session trace moves differs) order

  -- where nothing is taken all are
  pub pair_goes_quietly : TakeNothing moves → (n m : ℕ) → PairIsInOrder cfg end trace n m → PairIsInOrder cfg end trace_on n m
  pair_goes_quietly nothing n m order = same_or_not n session
      (λ is. rw is (pair_goes m (subst (λ k. PairIsInOrder cfg end trace k m) is order)
      (nothing_goes cfg.long_data cfg.channels end moves (pair_ends cfg end session m trace) nothing)))
      (λ differs. pair_stays n m differs order)

  pub pairs_go_quietly : TakeNothing moves → (met : List Meeting) → PairsAreInOrder cfg end trace met → PairsAreInOrder cfg end trace_on met
  pairs_go_quietly nothing met pairs =
      all_map (λ p. PairIsInOrder cfg end trace p.near p.far) (λ p. PairIsInOrder cfg end trace_on p.near p.far)
      (λ (p : Meeting) order. pair_goes_quietly nothing p.near p.far order) met pairs

module _ (laws : SessionLaws) (cfg : Cfg) (fine : IsConfigured cfg) (end : Role) (w : World) (h : SessionsJoined cfg end w) where
  abbrev ours : Settings
  ours = settings_from end cfg

  abbrev session : ℕ
  session = h.links.near.begun

  abbrev own_now : layer.End
  own_now = own cfg end session h.trace

  -- each session is one of two in order: with the one that it meets, or with one that isn't begun
  pub session_pair : (n : ℕ) → (m : ℕ) × PairIsInOrder cfg end h.trace n m
  session_pair n = elim (h.near_hears n) [
    | inl none ↦ (let m = suc h.links.far.begun in
        (m, nothing_in_order cfg end h.trace n m (h.near.alone n none.0) (subst TakeNothing (sym (h.far.later m (omega arith)).moves) tt)))
    | inr one ↦ (one.session, met_in_order cfg end h.trace h.links.met n one.session h.pairs one.has_met)
  ]

  -- what is put as the layer moves on in the session that stands is read again
  pub puts_readable : (moves : List OwnMove) (packets : List PlainPacket) → (own_run (layer_of cfg end) moves own_now).given ≡ own_now.given ++ packets
      → BringOctets cfg.wide (moved end session moves)
      → (m : ℕ) × PairIsInOrder cfg end (h.trace ++ moved end session moves) session m → AreReadable cfg.wide cfg.long_data packets
  puts_readable moves packets given octets paired =
      readable_behind cfg.wide cfg.long_data own_now.given packets
      (subst (AreReadable cfg.wide cfg.long_data) (ap (λ e. e.given) (own_goes cfg end session h.trace moves) ∙ given)
      (own_readable laws cfg fine end session paired.0 (h.trace ++ moved end session moves) paired.1
      (each_append _ h.trace (moved end session moves) h.octets octets)))

  -- the link's own step is at `v`, with the side `t`; behind it go the octets of the packets that the layer puts
  module _ (step : Step) (v : Sessions) (t : Side) (u : layer.TwoLayers) (moves : List OwnMove) (packets lifted coming : List PlainPacket)
      (handed came : List (List ℕ)) (took : all_read cfg came ≡ as_read lifted) (left : List links.Entry)
      (g : SessionGoes (link_of cfg end) h.links v session t.near t.out [] came left v.met) (up : is_up w.near.link.phase ≡ true)
      (up_after : is_up t.near.phase ≡ true)
      (p : PutsRead ours t packets handed step) (m : MovesAs (apart.alone own_now coming) u packets step)
      (near : u.near ≡ own_run (layer_of cfg end) moves own_now)
      (taken : (own_run (layer_of cfg end) moves own_now).taken ≡ own_now.taken ++ lifted) (plain : ArePlain step.entries) (kept : IsKept step.near)
      (octets : BringOctets cfg.wide (moved end session moves)) (paired : (m : ℕ) × PairIsInOrder cfg end (h.trace ++ moved end session moves) session m)
      (tells : AreTold (came_in step.entries) (brought cfg came)) (gave : ℕ → List Gave) (gives : AreSomeOf IsGiven (brought cfg handed) (gave session))
      (counts : (k : ℕ) (name : Name) → confirmed_in k name step.entries ≤ counted_in (layer_of cfg end) k name moves own_now) where
    abbrev own_then : layer.End
    own_then = own_run (layer_of cfg end) moves own_now

    told_then : own_then.told ≡ own_now.told ++ layer_notices step.entries
    told_then = ap (λ e. e.told) (sym near) ∙ m.told

    pub joins : {act : Act} → Asked cfg end w act h.links (all_act (link_of cfg end) (puts_of handed) v) → (lifted ≡ [] → TakeNothing moves)
        → PairsAreInOrder cfg end (h.trace ++ moved end session moves) v.met → ((n m : ℕ) → HasMet n m h.links.met → HasMet n m v.met)
        → (own_now.taken ≡ [] → ((lifted ≡ []) × (layer_notices step.entries ≡ [])) ⊎ IsNews session h.links.far.begun v.met (layer_notices step.entries))
        → Goes cfg end w act h.links gave (after_step ours w (octets_of left) step)
    joins asked alone pairs more news =
        let r = puts_go ours h.links v session packets handed t step came left v.met g p in
        goes_on cfg end w h step left (all_act (link_of cfg end) (puts_of handed) v) v.met moves packets lifted handed came
        (back_read cfg handed packets p.readable) took (back_octets cfg handed packets p.readable) r
        (record {
          layer = ap (λ e. e.layer) (sym near) ∙ m.layer;
          out = ap (λ e. e.is_out) (sym near) ∙ m.up;
          given = ap (λ e. e.given) (sym near) ∙ m.given;
          taken = taken;
          entries = ap (λ e. e.entries) (sym near) ∙ m.entries;
          told = told_then;
        })
        up (puts_up laws.stations.put_tells p up_after) plain kept tells gave gives counts asked alone
        (no_faults_behind own_now.told (layer_notices step.entries)
        (subst AreNoFaults (ap (λ e. e.told) (own_goes cfg end session h.trace moves) ∙ told_then)
        (own_quiet laws cfg end session paired.0 (h.trace ++ moved end session moves) paired.1).told))
        octets pairs more news

  -- ---- a command

  -- the layer does so, and pulls at these channels: it puts these packets, of which these octets are handed down, with what the user gave
  record IsAsked (request : LayerRequest) (gave : List Gave) (step : Step) : Type 0 where
    channels : List ℕ
    packets : List PlainPacket
    handed : List (List ℕ)
    layer : MovesAs (apart.alone own_now [])
        (moves_all (layer_of cfg end) (apart.alone own_now []) (Requested (waits w.near.link.outgoing == 256) request ∷ pulls_of channels)) packets step
    puts : AreReadable cfg.wide cfg.long_data packets → PutsRead ours (alone w.near.link) packets handed step
    up : is_up w.near.link.phase ≡ true
    may : command.may_ask cfg.wide request ≡ true
    plain : ArePlain step.entries
    alone : came_in step.entries ≡ []
    uncounted : CountNone step.entries
    gives : AreReadable cfg.wide cfg.long_data packets → AreSomeOf IsGiven (brought cfg handed) gave
    kept : IsKept step.near

  module _ (request : LayerRequest) (octets : RequestsOctets request) (gave : ℕ → List Gave) (step : Step) (a : IsAsked request (gave session) step) where
    abbrev full : Bool
    full = waits w.near.link.outgoing == 256

    abbrev begin : layer.TwoLayers
    begin = apart.alone own_now []

    abbrev moves : List OwnMove
    moves = Requests full request ∷ own_pulls a.channels

    abbrev world_on : layer.TwoLayers
    world_on = moves_all (layer_of cfg end) begin (Requested full request ∷ pulls_of a.channels)

    near_on : world_on.near ≡ own_run (layer_of cfg end) moves own_now
    near_on = near_pulls (layer_of cfg end) (layer.moves (layer_of cfg end) begin (Requested full request)) a.channels

    pair_on : (m : ℕ) × PairIsInOrder cfg end (h.trace ++ moved end session moves) session m
    pair_on = (let pair = session_pair session in
        (pair.0, pair_goes_quietly laws cfg end h.trace session moves (tt, pulls_take_nothing a.channels) session pair.0 pair.1))

    asked_readable : AreReadable cfg.wide cfg.long_data a.packets
    asked_readable = puts_readable moves a.packets (ap (λ e. e.given) (sym near_on) ∙ a.layer.given)
        ((octets, a.may), pulls_bring_octets cfg.wide end session a.channels) pair_on

    asked_joined : {act : Act} → ((o : List ℕ) → Asks act (line.Put o)) → Goes cfg end w act h.links gave (after_step ours w w.back step)
    asked_joined {act} may =
        let nothing : TakeNothing moves = (tt, pulls_take_nothing a.channels) in
        let leaves = asked_leaves (layer_of cfg end) begin (Requested full request ∷ pulls_of a.channels) (tt, pulls_asked a.channels) in
        let untold : layer_notices step.entries ≡ [] =
        append_cancel_left own_now.told (layer_notices step.entries) [] (sym a.layer.told ∙ leaves.told ∙ sym (append-nil own_now.told)) in
        subst (λ os. Goes cfg end w act h.links gave (after_step ours w os step)) h.back
        (joins step h.links (alone w.near.link) world_on moves a.packets [] [] a.handed [] refl h.links.back
        (stays_goes (link_of cfg end) h.links w.near.link h.near.link) a.up a.up (a.puts asked_readable) a.layer near_on
        (ap (λ e. e.taken) (sym near_on) ∙ leaves.taken ∙ sym (append-nil own_now.taken))
        a.plain a.kept ((octets, a.may), pulls_bring_octets cfg.wide end session a.channels) pair_on (rw a.alone tt) gave (a.gives asked_readable)
        (λ k name. (omega (arith, a.uncounted k name)))
        (then_puts [] (record { timely = tt; run = refl }) a.handed (asks_puts may a.handed)) (λ none. nothing)
        (pairs_go_quietly laws cfg end h.trace session moves nothing h.links.met h.pairs) (λ n m has. has)
        (λ none. inl (refl, untold)))

  -- ---- without anything given

  request_asked : (request : LayerRequest) (step : Step) → requests ours w.near request ≡ Did step → IsAsked request [] step
  request_asked request step is =
      let c = settings_from end cfg in
      let granted = did_granted c w.near request step is in
      let now = h.near.now granted.is_up in
      let j = laws.stations.request c w.near.link (apart.alone own_now []) w.near.turn request step now.out h.near.kept.few
      (ap (λ l. requests c (station_with w.near.link l w.near.turn) request) now.layer ∙ is) in
      record {
        channels = j.0;
        packets = j.2.packets;
        handed = spelled j.2.packets;
        puts = puts_spelled j.2.link;
        layer = j.2.layer;
        up = granted.is_up;
        may = granted.is_taken;
        plain = subst ArePlain (sym granted.entries) (outcome_plain (layer_settings c) w.near.layer request _);
        alone = ap came_in granted.entries ∙ outcome_beside (layer_settings c) w.near.layer request _;
        uncounted = λ k name. ap (confirmed_in k name) granted.entries ∙ outcome_counts (layer_settings c) w.near.layer request _ k name;
        gives = λ readable. rw (spelled_bring laws.stations cfg j.2.packets readable) tt;
        kept = subst KeptBy is (laws.stations.request_keeps c w.near request h.near.kept);
      }

  -- what is asked for may be said in full
  pub requests_joined : {act : Act} → ((o : List ℕ) → Asks act (line.Put o)) → (request : LayerRequest) → RequestsOctets request
      → Goes cfg end w act h.links gave_none (after w (of_station ours w (requests ours w.near request)))
  requests_joined {act} may request octets = by (requests ours w.near request) refl
    where
      by : (o : Outcome) → requests ours w.near request ≡ o → Goes cfg end w act h.links gave_none (after w (of_station ours w o))
      by (Did step) is = asked_joined request octets gave_none step (request_asked request step is) may
      by (Refused e) is = stays h gave_none

  -- ---- with something given

  -- by a request, which is refused or not
  abbrev pub gave_by_request : PlainGiven → LayerRequest → Option WorldError → ℕ → List Gave
  gave_by_request g request refusal n = gave_where (n == session) refusal (record { channel = channel_for (layer_of cfg end) w.near.layer request; given = g })

  given_asked : (g : PlainGiven) (request : LayerRequest) → GivesOctets g → (step : Step) → gives ours w.near g request ≡ Did step
      → IsAsked request (gave_by_request g request None session) step
  given_asked g request of_given step is =
      let c = settings_from end cfg in
      let granted = gave_granted c w.near g request step is in
      let now = h.near.now granted.is_up in
      let j = laws.stations.given c g w.near.link (apart.alone own_now []) w.near.turn request step now.out h.near.kept.few
      (ap (λ l. gives c (station_with w.near.link l w.near.turn) g request) now.layer ∙ is) in
      let taken = and_parts c.wide (may_give g && suits g request) granted.is_taken in
      let may = and_parts (may_give g) (suits g request) taken.1 in
      let first = subst (λ l. FirstMayGo g (channel_for (layer_of cfg end) l request) j.2.packets) now.layer
      (own_goes_first (layer_of cfg end) g own_now (waits w.near.link.outgoing == 256) request j.0 j.2.packets now.out may.1 granted.next granted.own
      (ap (λ l. layer_outcome (layer_of cfg end) (waits w.near.link.outgoing == 256) l request) now.layer ∙ granted.accepted) j.2.layer.given) in
      record {
        channels = j.0;
        packets = j.2.packets;
        handed = spelled_with g j.2.packets;
        puts = puts_spelled_with laws.stations.given_read taken.0 may.0 of_given j.2.link;
        layer = j.2.layer;
        up = granted.is_up;
        may = suits_asks cfg.wide g request may.1;
        plain = subst ArePlain (sym granted.entries) (outcome_plain (layer_settings c) w.near.layer request _);
        alone = ap came_in granted.entries ∙ outcome_beside (layer_settings c) w.near.layer request _;
        uncounted = λ k name. ap (confirmed_in k name) granted.entries ∙ outcome_counts (layer_settings c) w.near.layer request _ k name;
        gives = λ readable.
            (let channel = channel_for (layer_of cfg end) w.near.layer request in
            subst (λ b. AreSomeOf IsGiven (brought cfg (spelled_with g j.2.packets)) (gave_where b None (record { channel = channel; given = g })))
            (sym (same_number session))
            (spelled_with_bring laws.stations cfg g channel taken.0 may.0 of_given j.2.packets first readable));
        kept = subst KeptBy is (laws.stations.given_keeps c w.near g request h.near.kept);
      }

  pub gives_joined : {act : Act} → ((o : List ℕ) → Asks act (line.Put o)) → (g : PlainGiven) (request : LayerRequest) → GivesOctets g
      → RequestsOctets request
      → (let o = of_station ours w (gives ours w.near g request) in Goes cfg end w act h.links (gave_by_request g request (refusal_of o)) (after w o))
  gives_joined {act} may g request of_given octets = by (gives ours w.near g request) refl
    where
      by : (o : Outcome) → gives ours w.near g request ≡ o
          → Goes cfg end w act h.links (gave_by_request g request (refusal_of (of_station ours w o))) (after w (of_station ours w o))
      by (Did step) is = asked_joined request octets (gave_by_request g request None) step (given_asked g request of_given step is) may
      by (Refused e) is = stays h (gave_by_request g request (refusal_of (of_station ours w (Refused e))))
