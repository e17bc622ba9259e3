-- No step of a station makes an answer awaited anew, and the end of a wait is told; where none is given clear and
-- restart lead on.
use Rattle.x25_station.proofs.Names.{Ending, end_between, ends, entries_ended}
use Rattle.x25_station.specs.Entry.{disconnected}
use Rattle.x25_station.proofs.Names.{◌≡◌, ℕ, ◌<◌, ◌≤◌, ◌==◌, ◌⊎◌, inl, inr, List, [], ◌∷◌, ◌++◌, Bool, true, false, ◌||◌, if◌then◌else◌, Option, Some, None}
use Rattle.x25_station.proofs.Names.{refl, sym, ap, subst, ◌∙◌, arith, or-true, true≢false, eqb-true, eq-eqb, list_any, awaited_by, Clears, clear_in, does}
use Rattle.x25_station.proofs.Names.{CircuitSettings, Circuit, default_params, Awaits, State, Resetting, Clearing, PlainGiven, Resets, reset_in, Request, Done, outcome, reset}
use Rattle.x25_station.proofs.Names.{LayerRequest, Asks, Restarts, LayerOutcome, Accepted, Declined, outcome_on, outcome_in, layer_outcome, LayerSettings}
use Rattle.x25_station.proofs.Names.{Layer, LayerAnswer, is_channel, is_ready, put_at, restarting_from, packet_on, LinkView, Putting, begin, rounds, went}
use Rattle.x25_station.proofs.Names.{Refuses, LinkStep, probe_refusal, relink_refusal, relink_step, waits, Side, is_up, alone, take_step, timer_refusal}
use Rattle.x25_station.proofs.Names.{timer_step, connect_refusal, connect_step, disconnect_refusal, disconnect_step, abandon_step, LinkError, Phase, Down}
use Rattle.x25_station.proofs.Names.{Waiting, Up, Closed, Reason, Tells, PutTells, PlainPacket, clear, restart, longest_user, read_in, beside_in, Requests}
use Rattle.x25_station.proofs.Names.{RequestsWith, Connects, Disconnects, Probes, Relinks, said_by, may_ask, Settings, link_settings, layer_settings, named_by}
use Rattle.x25_station.proofs.Names.{came_beside, was_diagnosed, entries_up, StationEntry, of_channel, restart_asked, connect_asked, disconnect_asked}
use Rattle.x25_station.proofs.Names.{relink_asked, was_restarted, restart_confirmed, at_fault, was_confirmed, entries_down, station_asked, bringing}
use Rattle.x25_station.proofs.Names.{entries_beside, entries_behind, link_up, link_down, view_given, is_taken, Station, view_of, Step, Outcome, Did, Refused}
use Rattle.x25_station.proofs.Names.{with_puts, layer_at, layer_answer, confirmed_by, entries_of_answer, follows, led_by, unless, abandons, entries_heard}
use Rattle.x25_station.proofs.Names.{entries_of_outcome, did, requests, with_given, gave, requests_of, where_asked, gives, tells_link, is_of_link}
use Rattle.std.proofs.lemmas.List.Folds.{list_any-append}
use Rattle.x25_circuit.specs.{Circuit.{entered, unacknowledged}, declared.awaits.Awaits.TheVariants.{Nothing, ResetConfirmation, ClearConfirmation}}
use Rattle.x25_layer.specs.code.FitsLayer.{awaited_at}
use Rattle.x25_station.proofs.AwaitLemmas.{Kind, in_call, in_collision, in_reset, in_clear, in_interrupt, state_of, awaits_of, IsKind, kind_of}
use Rattle.x25_station.proofs.AwaitLemmas.{awaits_on, EndsOn, LayerMoves, OutcomeMoves, answer_moves}
use Rattle.x25_station.proofs.{AwaitLemmas.{asked_moves, SameAwaited, rounds_same, moves_on}, KeepLemmas.{LinkLaws}, MayLemmas.{where_holds}}
use Rattle.x25_station.proofs.{Names.{is_answered_on, is_left_on, rank_in, rank_of}, PutLemmas.{all_up}, UnheardLemmas.{all_given_last}}
use Rattle.x25_station.specs.laws.{EndLaw.{IsTold, EndIsTold}, WayOutLaw.{rank, ResetLeadsOn, RotationLeadsOn, ClearLeadsOn, RestartLeadsOn, AwaitsStill}}
use Rattle.x25_station.specs.laws.WayOutLaw.{IsNearer, LeadsOn, NothingLeadsBack}
use Rattle.x25_station.proofs.Names.{Open, is_open_in, nat_lt, length, none-some, ◌%◌, ◌&&◌}
use Rattle.x25_layer.specs.declared.error.LayerError.TheVariants as layer_error
use Rattle.x25_station.specs.laws.TimerLaw as timer

-- ---- a link that is up

pub up_is : (p : Phase) → is_up p ≡ true → p ≡ Up
up_is Up is = refl
up_is p is = absurd (true≢false (sym is))

low_one : {A : Type 0} (n : ℕ) → n ≤ 1 → 2 ≤ n → A
low_one n low high = absurd (omega (arith, low, high))

pub is_up_high : (p : Phase) (r : Bool) (a : Awaits) → 2 ≤ rank_of p r a → is_up p ≡ true
is_up_high Down r a high = low_one 0 (omega arith) high
is_up_high Waiting r a high = low_one 1 (omega arith) high
is_up_high Up r a high = refl
is_up_high Closed r a high = low_one 0 (omega arith) high

-- ---- a station

module _ (c : Settings) (s : Station) (h : ℕ) where
  abbrev lc : LayerSettings
  lc = layer_settings c

  -- what is awaited is what was, or fewer steps are left and the entries tell that
  abbrev Leads : Station → List StationEntry → Type 0
  Leads next entries = AwaitsStill c s next h ⊎ (IsNearer c s next h × EndsOn h (awaited_at lc s.layer h) (rank c next h) entries)

  leads : (next : Station) (entries : List StationEntry) → is_up s.link.phase ≡ true → is_up next.link.phase ≡ true
      → LayerMoves lc h s.layer next.layer entries → Leads next entries
  leads next entries up is (inl e) = inl (record { up = is; restarting = e.0; awaits = e.1 })
  leads next entries up is (inr x) =
      let here : Phase → ℕ = λ p. rank_of p next.layer.restarting (awaited_at lc next.layer h) in
      let low : here next.link.phase < rank_of Up s.layer.restarting (awaited_at lc s.layer h) =
      subst (λ (p : Phase). here p < rank_of Up s.layer.restarting (awaited_at lc s.layer h)) (sym (up_is next.link.phase is)) x.0 in
      inr (
        record {
          low = subst (λ (p : Phase). rank c next h < rank_of p s.layer.restarting (awaited_at lc s.layer h)) (sym (up_is s.link.phase up)) low;
          no_call = x.1;
        },
        subst (λ (p : Phase). EndsOn h (awaited_at lc s.layer h) (here p) entries) (sym (up_is next.link.phase is)) x.2,
      )

  -- more is told behind it
  any_front : (p : StationEntry → Bool) (xs ys : List StationEntry) → list_any p xs ≡ true → list_any p (xs ++ ys) ≡ true
  any_front p xs ys is = list_any-append p xs ys ∙ ap (λ (b : Bool). b || list_any p ys) is

  ends_more : (awaits : Awaits) (left : ℕ) (xs ys : List StationEntry) → EndsOn h awaits left xs → EndsOn h awaits left (xs ++ ys)
  ends_more awaits left xs ys (inl x) = inl (x.0, any_front (is_left_on h) xs ys x.1)
  ends_more awaits left xs ys (inr is) = inr (any_front (is_answered_on h awaits) xs ys is)

  leads_more : (next : Station) (xs ys : List StationEntry) → Leads next xs → Leads next (xs ++ ys)
  leads_more next xs ys (inl still) = inl still
  leads_more next xs ys (inr x) = inr (x.0, ends_more (awaited_at lc s.layer h) (rank c next h) xs ys x.1)

  abbrev Goes : Outcome → Type 0
  Goes (Did step) = tells_link step.entries ≡ false → Leads step.near step.entries
  Goes (Refused e) = Unit {0}

  module _ (tells : PutTells) (high : 2 ≤ rank c s h) where
    up : is_up s.link.phase ≡ true
    up = is_up_high s.link.phase s.layer.restarting (awaited_at lc s.layer h) high

    high_up : 2 ≤ rank_of Up s.layer.restarting (awaited_at lc s.layer h)
    high_up = subst (λ (p : Phase). 2 ≤ rank_of p s.layer.restarting (awaited_at lc s.layer h)) (up_is s.link.phase up) high

    -- what the layer puts behind a step of the link
    put_leads : (t : Side) (next : Layer) (owed : Option PlainPacket) (entries : List StationEntry) → is_up t.near.phase ≡ true
        → LayerMoves lc h s.layer next entries
        → Leads (with_puts c t (rounds (view_of (link_settings c) s.turn t.near) lc (begin next owed)) entries).near entries
    put_leads t next owed entries is moved =
        let n : Putting = rounds (view_of (link_settings c) s.turn t.near) lc (begin next owed) in
        leads (with_puts c t n entries).near entries up (all_up tells (link_settings c) n.put t is)
        (moves_on lc h s.layer next n.layer entries moved (rounds_same (view_of (link_settings c) s.turn t.near) lc (begin next owed)))

    -- a step of the link
    follow_leads : (k : LinkStep) → Tells s.link k → tells_link (follows c s k).entries ≡ false
        → Leads (follows c s k).near (follows c s k).entries
    follow_leads k t quiet = by k.packet k.notes.down refl k.notes.up refl quiet
      where
        view : LinkView
        view = view_of (link_settings c) s.turn k.side.near

        noted : (o : Option Reason) (b : Bool) → k.notes.down ≡ o → k.notes.up ≡ b → k.notes ≡ record { down = o; up = b }
        noted o b p q = ap (λ (x : Option Reason). record { down = x; up = k.notes.up }) p ∙ ap (λ (x : Bool). record { down = o; up = x }) q

        by : (p : Option (List ℕ)) (d : Option Reason) → k.notes.down ≡ d → (u : Bool) → k.notes.up ≡ u
            → tells_link ((entries_down d ++ entries_up u) ++ entries_heard lc c.wide s.layer p d u) ≡ false
            → Leads (with_puts c k.side (layer_at view lc c.wide s.layer p d u) []).near
            ((entries_down d ++ entries_up u) ++ entries_heard lc c.wide s.layer p d u)
        by p (Some reason) is_d u is_u none = absurd (true≢false none)
        by p None is_d true is_u none = absurd (true≢false none)
        by (Some octets) None is_d false is_u none =
            let a : LayerAnswer = layer_answer lc c.wide s.layer octets in
            leads_more (with_puts c k.side (layer_at view lc c.wide s.layer (Some octets) None false) []).near (entries_of_answer a)
            (entries_behind a.next (named_by octets) (confirmed_by lc c.wide s.layer a.next (named_by octets))
            (entries_beside (beside_in c.wide octets) (bringing a.notices)))
            (put_leads k.side a.next a.owed (entries_of_answer a) (t.stays (noted None false is_d is_u) ∙ up)
            (answer_moves lc h s.layer octets (read_in c.wide (longest_user c.long_data) octets) high_up))
        by None None is_d false is_u none =
            leads (with_puts c k.side (layer_at view lc c.wide s.layer None None false) []).near [] up (t.stays (noted None false is_d is_u) ∙ up)
            (inl (refl, refl))

    -- which may end what a DISC awaits
    end_leads : (k : LinkStep) → Tells s.link k → Goes (Did (ends c s k))
    end_leads k t = by (end_between s.link k.side.near)
      where
        by : (e : Option Ending) → Goes (Did (led_by (entries_ended e) (follows c s k)))
        by None = follow_leads k t
        by (Some ending) = follow_leads k t

    -- a request of the layer
    request_leads : (request : LayerRequest) → Goes (requests c s request)
    request_leads request =
        where_holds Goes (may_ask c.wide request) (requests_of c s.link s.layer view request) (λ e. tt)
        (at (is_up s.link.phase) refl (layer_outcome lc full s.layer request) (asked_moves lc h full s.layer request high_up))
      where
        full : Bool
        full = waits s.link.outgoing == 256

        view : LinkView
        view = view_of (link_settings c) s.turn s.link

        at : (b : Bool) → is_up s.link.phase ≡ b → (o : LayerOutcome) → OutcomeMoves lc h s.layer.restarting s.layer request o
            → Goes (did c (alone s.link) (entries_of_outcome lc s.layer request o) (if b then went view lc o else Refuses layer_error.NotUp))
        at false is o moved = tt
        at true is (Declined e) moved = tt
        at true is (Accepted next packet) moved = λ quiet. put_leads (alone s.link) next packet (station_asked lc s.layer next request) is moved

    -- and one with something given beside its packet
    given_leads : (g : PlainGiven) (request : LayerRequest) → Goes (gives c s g request)
    given_leads g request = at (is_taken c g request) (is_up s.link.phase) refl (layer_outcome lc full s.layer request)
        (asked_moves lc h full s.layer request high_up)
      where
        full : Bool
        full = waits s.link.outgoing == 256

        view : LinkView
        view = view_given (link_settings c) g s.turn s.link

        at : (taken b : Bool) → is_up s.link.phase ≡ b → (o : LayerOutcome) → OutcomeMoves lc h s.layer.restarting s.layer request o
            → Goes (gave c g taken (alone s.link) (entries_of_outcome lc s.layer request o) (if b then went view lc o else Refuses layer_error.NotUp))
        at taken false is o moved = tt
        at taken true is (Declined e) moved = tt
        at false true is (Accepted next packet) moved = tt
        at true true is (Accepted next packet) moved = λ quiet.
            let n : Putting = rounds view lc (begin next packet) in
            let entries : List StationEntry = station_asked lc s.layer next request in
            leads (with_given c g (alone s.link) n entries).near entries up (ap is_up (all_given_last (link_settings c) g n.put (alone s.link)).phase ∙ is)
            (moves_on lc h s.layer next n.layer entries moved (rounds_same view lc (begin next packet)))

    unless_leads : (o : Option LinkError) (step : Step) → (tells_link step.entries ≡ false → Leads step.near step.entries) → Goes (unless o step)
    unless_leads None step go = go
    unless_leads (Some e) step go = tt

    not_asked : (entries : List StationEntry)
        → Goes (unless (connect_refusal s.link.phase) (led_by entries (follows c s (connect_step (link_settings c) s.link))))
    not_asked entries = subst (λ (p : Phase). Goes (unless (connect_refusal p) (led_by entries (follows c s (connect_step (link_settings c) s.link)))))
        (sym (up_is s.link.phase up)) tt

goes_on : LinkLaws → (c : Settings) (s : Station) (h : ℕ) (event : timer.StationEvent) → 2 ≤ rank c s h → Goes c s h (timer.outcome c s event)
goes_on laws c s h timer.Fires high =
    unless_leads c s h laws.put high (timer_refusal s.link) (ends c s (timer_step (link_settings c) s.link))
    (end_leads c s h laws.put high (timer_step (link_settings c) s.link) (laws.timer (link_settings c) s.link))
goes_on laws c s h (timer.Comes octets) high = test (abandons c s)
  where
    test : (b : Bool) → (let k : LinkStep = if b then abandon_step (link_settings c) s.link else take_step (link_settings c) octets s.link in
        Goes c s h (Did (ends c s k)))
    test true = end_leads c s h laws.put high (abandon_step (link_settings c) s.link) (laws.abandon (link_settings c) s.link)
    test false = end_leads c s h laws.put high (take_step (link_settings c) octets s.link) (laws.take (link_settings c) octets s.link)
goes_on laws c s h (timer.Asks (Requests request)) high = request_leads c s h laws.put high (said_by c.say_sizes s.layer request)
goes_on laws c s h (timer.Asks (RequestsWith given request)) high = given_leads c s h laws.put high given (said_by c.say_sizes s.layer request)
goes_on laws c s h (timer.Asks Connects) high = not_asked c s h laws.put high (connect_asked ∷ [])
goes_on laws c s h (timer.Asks Disconnects) high =
    unless_leads c s h laws.put high (disconnect_refusal s.link.phase)
    (led_by (disconnect_asked ∷ []) (follows c s (disconnect_step (link_settings c) s.link)))
    (follow_leads c s h laws.put high (disconnect_step (link_settings c) s.link) (laws.disconnect (link_settings c) s.link))
goes_on laws c s h (timer.Asks Probes) high =
    unless_leads c s h laws.put high (probe_refusal s.link.phase) (follows c s (timer_step (link_settings c) s.link))
    (follow_leads c s h laws.put high (timer_step (link_settings c) s.link) (laws.timer (link_settings c) s.link))
goes_on laws c s h (timer.Asks Relinks) high =
    unless_leads c s h laws.put high (relink_refusal s.link.phase) (led_by (relink_asked ∷ []) (follows c s (relink_step (link_settings c) s.link)))
    (follow_leads c s h laws.put high (relink_step (link_settings c) s.link) (laws.relink (link_settings c) s.link))

pub nothing_leads_back : LinkLaws → NothingLeadsBack
nothing_leads_back laws c s h event high = by (timer.outcome c s event) (goes_on laws c s h event high)
  where
    forgets : (next : Station) (entries : List StationEntry) → Leads c s h next entries → AwaitsStill c s next h ⊎ IsNearer c s next h
    forgets next entries (inl still) = inl still
    forgets next entries (inr x) = inr x.0

    by : (o : Outcome) → Goes c s h o → LeadsOn c s h o
    by (Did step) go = λ quiet. forgets step.near step.entries (go quiet)
    by (Refused e) go = tt

-- LinkUp and LinkDown answer all
link_answers : (h : ℕ) (awaits : Awaits) (entries : List StationEntry) → tells_link entries ≡ true → list_any (is_answered_on h awaits) entries ≡ true
link_answers h awaits [] is = absurd (true≢false (sym is))
link_answers h awaits (entry ∷ entries) is = by entry is (λ later. link_answers h awaits entries later)
  where
    behind : (e : StationEntry) → list_any (is_answered_on h awaits) entries ≡ true → (is_answered_on h awaits e || list_any (is_answered_on h awaits) entries)
        ≡ true
    behind e later = ap (λ (b : Bool). is_answered_on h awaits e || b) later ∙ or-true (is_answered_on h awaits e)

    by : (e : StationEntry) → (is_of_link e || tells_link entries) ≡ true → (tells_link entries ≡ true → list_any (is_answered_on h awaits) entries ≡ true)
        → (is_answered_on h awaits e || list_any (is_answered_on h awaits) entries) ≡ true
    by link_up told rest = refl
    by (link_down reason) told rest = refl
    by (of_channel e) told rest = behind (of_channel e) (rest told)
    by (restart_asked cause diagnostic) told rest = rest told
    by connect_asked told rest = rest told
    by disconnect_asked told rest = rest told
    by relink_asked told rest = rest told
    by (disconnected ending) told rest = rest told
    by (was_restarted cause diagnostic) told rest = refl
    by restart_confirmed told rest = refl
    by (at_fault diagnostic) told rest = rest told
    by (came_beside channel facilities user) told rest = rest told
    by (was_diagnosed diagnostic) told rest = rest told
    by (was_confirmed channel name count) told rest = rest told

pub end_is_told : LinkLaws → EndIsTold
end_is_told laws c s h event high = by (timer.outcome c s event) (goes_on laws c s h event high)
  where
    tells : (step : Step) → Leads c s h step.near step.entries → IsTold c s h (Did step)
    tells step (inl still) = inl still
    tells step (inr x) = inr x.1

    by : (o : Outcome) → Goes c s h o → IsTold c s h o
    by (Did step) go = of_link (tells_link step.entries) refl
      where
        of_link : (b : Bool) → tells_link step.entries ≡ b → IsTold c s h (Did step)
        of_link true is = inr (inr (link_answers h (awaited_at (layer_settings c) s.layer h) step.entries is))
        of_link false is = tells step (go is)
    by (Refused e) go = tt

-- ---- clear and restart

not_full : (n : ℕ) → n < 256 → (n == 256) ≡ false
not_full n low = test (n == 256) refl
  where
    test : (b : Bool) → (n == 256) ≡ b → b ≡ false
    test true is = let e : n ≡ 256 = eqb-true n 256 is in absurd (omega (arith, e, low))
    test false is = refl

-- a station whose link is up, by whether a restart is under way and by what a channel awaits
rank_is : (c : Settings) (t : Station) (h : ℕ) (r : Bool) (a : Awaits) → is_up t.link.phase ≡ true → t.layer.restarting ≡ r
    → awaited_by (t.layer.circuits h) ≡ a → rank c t h ≡ rank_of Up r (awaits_on (is_channel c.channels h) a)
rank_is c t h r a up restarting awaits =
    ap (λ (p : Phase). rank_of p t.layer.restarting (awaited_at (layer_settings c) t.layer h)) (up_is t.link.phase up)
    ∙ ap (λ (b : Bool). rank_of Up b (awaited_at (layer_settings c) t.layer h)) restarting
    ∙ ap (λ (d : Awaits). rank_of Up r (awaits_on (is_channel c.channels h) d)) awaits

-- an accepted request of the layer, where fewer than 256 packets wait
module _ (tells : PutTells) (c : Settings) (s : Station) (request : LayerRequest) (next : Layer) (packet : Option PlainPacket) (up : is_up s.link.phase ≡ true)
    (low : waits s.link.outgoing < 256)
    (is : layer_outcome (layer_settings c) false s.layer request ≡ Accepted next packet) where
  abbrev put : Putting
  put = rounds (view_of (link_settings c) s.turn s.link) (layer_settings c) (begin next packet)

  abbrev accepted_step : Step
  accepted_step = with_puts c (alone s.link) put (entries_of_outcome (layer_settings c) s.layer request (Accepted next packet))

  accepted : may_ask c.wide request ≡ true → requests c s request ≡ Did accepted_step
  accepted may =
      let lc : LayerSettings = layer_settings c in
      let view : LinkView = view_of (link_settings c) s.turn s.link in
      ap (λ (b : Bool). where_asked b (requests_of c s.link s.layer view request)) may
      ∙ ap (λ (b : Bool). did c (alone s.link) (entries_of_outcome lc s.layer request (layer_outcome lc (waits s.link.outgoing == 256) s.layer request))
      (if b then went view lc (layer_outcome lc (waits s.link.outgoing == 256) s.layer request) else Refuses layer_error.NotUp)) up
      ∙ ap (λ (b : Bool). did c (alone s.link) (entries_of_outcome lc s.layer request (layer_outcome lc b s.layer request))
      (went view lc (layer_outcome lc b s.layer request))) (not_full (waits s.link.outgoing) low)
      ∙ ap (λ (o : LayerOutcome). did c (alone s.link) (entries_of_outcome lc s.layer request o) (went view lc o)) is

  accepted_rank : (h : ℕ) (r : Bool) (a : Awaits) → next.restarting ≡ r → awaited_by (next.circuits h) ≡ a → rank c accepted_step.near h
      ≡ rank_of Up r (awaits_on (is_channel c.channels h) a)
  accepted_rank h r a restarting awaits =
      let same : SameAwaited next put.layer = rounds_same (view_of (link_settings c) s.turn s.link) (layer_settings c) (begin next packet) in
      rank_is c accepted_step.near h r a (all_up tells (link_settings c) put.put (alone s.link) up) (same.0 ∙ restarting) (same.1 h ∙ awaits)

-- ---- what a rank of more than 2 says: what the channel awaits

unlike : {A : Type 0} (m n : ℕ) → (m == n) ≡ false → m ≡ n → A
unlike m n differs is = absurd (true≢false (sym (eq-eqb m n is) ∙ differs))

low_two : {A : Type 0} (m n : ℕ) → m ≤ 2 → 3 ≤ n → m ≡ n → A
low_two m n low high is = absurd (omega (arith, low, high, is))

pub record IsRanked (n : ℕ) (p : Phase) (r b : Bool) (x : Circuit) : Type 0 where
  pub phase : is_up p ≡ true
  pub ready : r ≡ false
  pub configured : b ≡ true
  pub kind : IsKind x
  pub rank : rank_in (awaits_of kind.kind) ≡ n

-- it may be asked of the channel
pub record MayBeAsked (p : Phase) (r b : Bool) : Type 0 where
  pub phase : is_up p ≡ true
  pub ready : r ≡ false
  pub configured : b ≡ true

asked_of : {n : ℕ} {p : Phase} {r b : Bool} {x : Circuit} → IsRanked n p r b x → MayBeAsked p r b
asked_of old = record { phase = old.phase; ready = old.ready; configured = old.configured }

ranked : (n : ℕ) → 3 ≤ n → (p : Phase) (r b : Bool) (x : Circuit) → rank_of p r (awaits_on b (awaited_by x)) ≡ n → IsRanked n p r b x
ranked n high Down r b x is = low_two 0 n (omega arith) high is
ranked n high Waiting r b x is = low_two 1 n (omega arith) high is
ranked n high Closed r b x is = low_two 0 n (omega arith) high is
ranked n high Up true b x is = low_two 2 n (omega arith) high is
ranked n high Up false false x is = low_two 0 n (omega arith) high is
ranked n high Up false true x is =
    let kind : IsKind x = kind_of x 2 (omega (arith, high, is)) in
    record { phase = refl; ready = refl; configured = refl; kind = kind; rank = ap rank_in (sym kind.awaits) ∙ is }

clears_it : (c : CircuitSettings) (x : Circuit) (k : Kind) → rank_in (awaits_of k) ≡ 4 → clear_in c x (state_of k) 0 0
    ≡ does x Clearing default_params false (clear 1 0 0)
clears_it c x in_call is = refl
clears_it c x in_collision is = refl
clears_it c x in_reset is = refl
clears_it c x in_clear is = unlike 3 4 refl is
clears_it c x in_interrupt is = unlike 5 4 refl is

resets_it : (c : CircuitSettings) (x : Circuit) (k : Kind) → rank_in (awaits_of k) ≡ 5 → reset_in c x (state_of k) 0 0
    ≡ does x Resetting x.params x.calls (reset 1 0 0)
resets_it c x in_call is = unlike 4 5 refl is
resets_it c x in_collision is = unlike 4 5 refl is
resets_it c x in_reset is = unlike 4 5 refl is
resets_it c x in_clear is = unlike 3 5 refl is
resets_it c x in_interrupt is = refl

-- a clear or a reset of a channel that is ranked so is accepted, and another answer is awaited then
module _ (tells : PutTells) (c : Settings) (s : Station) (h : ℕ) (low : waits s.link.outgoing < 256) where
  abbrev at_channel : Circuit
  at_channel = s.layer.circuits h

  abbrev on_channel : Request → LayerOutcome
  on_channel request = if is_channel c.channels h
      then outcome_on s.layer.restarts s.layer.circuits h (outcome (layer_settings c).circuit at_channel request)
      else Declined layer_error.NoSuchChannel

  leads_to : (request : Request) (gone : Circuit) (packet : PlainPacket) (a : Awaits)
      → MayBeAsked s.link.phase s.layer.restarting (is_channel c.channels h)
      → may_ask c.wide (Asks h request) ≡ true
      → outcome_in (layer_settings c) false false s.layer.restarts s.layer.circuits (Asks h request) ≡ on_channel request
      → outcome (layer_settings c).circuit at_channel request ≡ Done gone (Some packet) → awaited_by gone ≡ a
      → (step : Step) × (requests c s (Asks h request) ≡ Did step) × (rank c step.near h ≡ rank_in a)
  leads_to request gone packet a old may on_it done awaits =
      let lc : LayerSettings = layer_settings c in
      let l : Layer = s.layer in
      let asks : LayerRequest = Asks h request in
      let next : Layer = is_ready l.restarts (put_at l.circuits h gone) in
      let owed : Option PlainPacket = packet_on h (Some packet) in
      let found : layer_outcome lc false l asks ≡ Accepted next owed =
      ap (λ (r : Bool). outcome_in lc false r l.restarts l.circuits asks) old.ready ∙ on_it
      ∙ ap (λ (b : Bool). if b then outcome_on l.restarts l.circuits h (outcome lc.circuit at_channel request) else Declined layer_error.NoSuchChannel)
      old.configured
      ∙ ap (outcome_on l.restarts l.circuits h) done in
      let at_h : awaited_by (next.circuits h) ≡ a = ap (λ (b : Bool). let y : Circuit = if b then gone else at_channel in awaited_by y) (eq-eqb h h refl) ∙ awaits in (
        accepted_step tells c s asks next owed old.phase low found,
        accepted tells c s asks next owed old.phase low found may,
        accepted_rank tells c s asks next owed old.phase low found h false a refl at_h ∙ ap (λ (b : Bool). rank_of Up false (awaits_on b a)) old.configured,
      )

pub clear_leads_on : PutTells → ClearLeadsOn
clear_leads_on tells c s h is low =
    let x : Circuit = s.layer.circuits h in
    let old : IsRanked 4 s.link.phase s.layer.restarting (is_channel c.channels h) x =
    ranked 4 (omega arith) s.link.phase s.layer.restarting (is_channel c.channels h) x is in
    leads_to tells c s h low (Clears 0 0) (entered x Clearing default_params false) (clear 1 0 0) ClearConfirmation (asked_of old) refl refl
    (ap (λ (y : State). clear_in (layer_settings c).circuit x y 0 0) old.kind.is ∙ clears_it (layer_settings c).circuit x old.kind.kind old.rank) refl

pub reset_leads_on : PutTells → ResetLeadsOn
reset_leads_on tells c s h is low =
    let x : Circuit = s.layer.circuits h in
    let old : IsRanked 5 s.link.phase s.layer.restarting (is_channel c.channels h) x =
    ranked 5 (omega arith) s.link.phase s.layer.restarting (is_channel c.channels h) x is in
    leads_to tells c s h low (Resets 0 0) (entered x Resetting x.params x.calls) (reset 1 0 0) ResetConfirmation (asked_of old) refl refl
    (ap (λ (y : State). reset_in (layer_settings c).circuit x y 0 0) old.kind.is ∙ resets_it (layer_settings c).circuit x old.kind.kind old.rank) refl

-- a channel with a data packet that isn't acknowledged
record IsOut (r b : Bool) (x : Circuit) : Type 0 where
  ready : r ≡ false
  configured : b ≡ true
  opened : x.state ≡ Open

is_out : (r b : Bool) (x : Circuit) (n : ℕ) → (if r then None else if b then unacknowledged x else None) ≡ Some n → IsOut r b x
is_out true b x n is = absurd (none-some n is)
is_out false false x n is = absurd (none-some n is)
is_out false true x n is = record { ready = refl; configured = refl; opened = at x.state refl is }
  where
    at : (s : State) → x.state ≡ s
        → (if (is_open_in s && x.talk.peer_ready) && nat_lt x.talk.acked (length x.talk.sent) then Some (x.talk.acked % 8) else None) ≡ Some n → x.state ≡ Open
    at Open same is = same
    at s same is = absurd (none-some n is)

-- none is where a reset is awaited
none_out : (r b : Bool) (x : Circuit) (k : Kind) → x.state ≡ state_of k → rank_in (awaits_of k) ≡ 4
    → (if r then None else if b then unacknowledged x else None) ≡ None
none_out true b x k is four = refl
none_out false false x k is four = refl
none_out false true x in_interrupt is four = unlike 5 4 refl four
none_out false true x k is four = ap (λ (s : State). if (is_open_in s && x.talk.peer_ready) && nat_lt x.talk.acked (length x.talk.sent)
    then Some (x.talk.acked % 8) else None) is

pub rotation_leads_on : PutTells → RotationLeadsOn
rotation_leads_on tells c s h n up is low =
    let x : Circuit = s.layer.circuits h in
    let old : IsOut s.layer.restarting (is_channel c.channels h) x = is_out s.layer.restarting (is_channel c.channels h) x n is in
    let found = leads_to tells c s h low (Resets 0 146) (entered x Resetting x.params x.calls) (reset 1 0 146) ResetConfirmation
    (record { phase = up; ready = old.ready; configured = old.configured }) refl refl
    (ap (λ (y : State). reset_in (layer_settings c).circuit x y 0 146) old.opened) refl in
    let near : Station = found.0.near in
    let y : Circuit = near.layer.circuits h in
    let reset : IsRanked 4 near.link.phase near.layer.restarting (is_channel c.channels h) y =
    ranked 4 (omega arith) near.link.phase near.layer.restarting (is_channel c.channels h) y found.2 in
    (found.0, found.1, none_out near.layer.restarting (is_channel c.channels h) y reset.kind.kind reset.kind.is reset.rank)

pub restart_leads_on : PutTells → RestartLeadsOn
restart_leads_on tells c s up ready low =
    let lc : LayerSettings = layer_settings c in
    let l : Layer = s.layer in
    let request : LayerRequest = Restarts 0 0 in
    let next : Layer = restarting_from l.restarts l.circuits in
    let packet : Option PlainPacket = Some (restart 0 0) in
    let found : layer_outcome lc false l request ≡ Accepted next packet = ap (λ (r : Bool). outcome_in lc false r l.restarts l.circuits request) ready in (
      accepted_step tells c s request next packet up low found,
      accepted tells c s request next packet up low found refl,
      λ h. accepted_rank tells c s request next packet up low found h true Nothing refl refl,
    )
