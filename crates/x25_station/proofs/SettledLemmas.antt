-- A station whose link is up asks, or its link is at rest.
use Rattle.x25_station.proofs.Names.{ends, disconnected}
use Rattle.x25_station.proofs.Names.{◌≡◌, ℕ, ◌+◌, ◌≤◌, ◌==◌, List, [], ◌∷◌, ◌++◌, length, Bool, true, false, not, ◌||◌, ◌&&◌, if◌then◌else◌, nat_lt, Option}
use Rattle.x25_station.proofs.Names.{Some, None, refl, sym, ap, subst, ◌∙◌, arith, true≢false, eqb-true, and_parts, disc, frame_of, PlainGiven, write, PullsAll}
use Rattle.x25_station.proofs.Names.{outcome_in, layer_outcome, Layer, is_channel, is_ready, LayerError, LinkView, Answered, Went, Refuses, Putting, begin}
use Rattle.x25_station.proofs.Names.{rounds, went, calls, LinkStep, other, alone, put_step, take_step, timer_refusal, timer_step, connect_refusal, connect_step}
use Rattle.x25_station.proofs.Names.{disconnect_refusal, disconnect_step, abandon_step, probe_refusal, relink_refusal, relink_step, timer_runs, added, waits}
use Rattle.x25_station.proofs.Names.{Outgoing, LinkSettings, LinkStation, Side, is_up, with_near, with_nothing, sends, LinkError, Phase, Waiting, Closed, Down}
use Rattle.x25_station.proofs.Names.{Reason, Retries, Tells, TakeTells, TimerTells, AbandonTells, RelinkIsTwoSteps, PlainPacket, spelling_of, Requests}
use Rattle.x25_station.proofs.Names.{RequestsWith, Connects, Disconnects, Probes, Relinks, said_by, may_ask, Settings, link_settings, layer_settings}
use Rattle.x25_station.proofs.Names.{StationEntry, connect_asked, disconnect_asked, relink_asked, all_given, view_given, is_taken, pulled_of, Station, put_on}
use Rattle.x25_station.proofs.Names.{all_put, view_of, Step, with_puts, layer_at, follows, led_by, unless, abandons, entries_of_outcome, did, gave, requests_of}
use Rattle.std.proofs.lemmas.List.{length-append}
use Rattle.x25_link.specs.{Link.{is_idle, connects as link_connects}, Outgoing.{no_packet}, declared.phase.Reason.TheVariants.{Counts}}
use Rattle.x25_link.specs.laws.RestLaw.{HasSaidAll, TakeSaysAll, PutSaysAll, TimerSaysAll, ConnectSaysAll, DisconnectSaysAll, AbandonSaysAll, NoTimerIsIdle}
use Rattle.x25_link.specs.laws.WindowLaw.{IsSound, Follows, TakeFollows, PutFollows, TimerFollows, AbandonFollows, ending_of, brought_by, window_of}
use Rattle.x25_link.specs.laws.WindowMachine.{Input, nothing}
use Rattle.x25_station.proofs.{AwaitLemmas.{awaits_on, SameAwaited, rounds_same}, MayLemmas.{where_holds}, Names.{runs}}
use Rattle.x25_station.{proofs.UnheardLemmas.{Lasts, ended_lasts, put_lasts, all_put_lasts}, specs.Station.Told.{is_at_rest}}
use Rattle.x25_station.specs.laws.SettledLaw.{IsSettled, SettledBy, NewIsSettled, StaysSettled, SettledAsks, GoesOn, PullsGoOn}
use Rattle.x25_layer.specs.declared.error.LayerError.TheVariants as layer_error
use Rattle.x25_station.specs.Station as station
use Rattle.x25_station.specs.laws.TimerLaw as timer

-- the laws of the link that are used
pub record LinkSettles : Type 0 where
  pub take_says : TakeSaysAll
  pub put_says : PutSaysAll
  pub timer_says : TimerSaysAll
  pub connect_says : ConnectSaysAll
  pub disconnect_says : DisconnectSaysAll
  pub abandon_says : AbandonSaysAll
  pub idle : NoTimerIsIdle
  pub take_tells : TakeTells
  pub timer_tells : TimerTells
  pub abandon_tells : AbandonTells
  pub take : TakeFollows
  pub put : PutFollows
  pub timer : TimerFollows
  pub abandon : AbandonFollows
  pub relink : RelinkIsTwoSteps

-- ---- a link

record Settled (k : ℕ) (s : LinkStation) : Type 0 where
  said : HasSaidAll k s
  sound : is_up s.phase ≡ true → IsSound k s.outgoing

none_sound : (k : ℕ) → IsSound k no_packet
none_sound k = record { place_low = omega arith; place_high = omega arith; sent_high = omega arith; room = omega arith }

ending_sound : (k : ℕ) (o : Option Reason) (input : Input) (s : LinkStation) (step : LinkStep) → Follows o k input s step → IsSound k step.side.near.outgoing
ending_sound k None input s step stays = stays.sound
ending_sound k (Some reason) input s step ends = subst (λ (x : Outgoing). IsSound k x) (sym ends.outgoing) (none_sound k)

-- a step that tells what became of the link
sound_by : (k : ℕ) (s : LinkStation) (step : LinkStep) → Tells s step → (is_up s.phase ≡ true → IsSound k step.side.near.outgoing) → is_up step.side.near.phase
    ≡ true → IsSound k step.side.near.outgoing
sound_by k s step tells running up = by step.notes.down refl step.notes.up refl
  where
    noted : (o : Option Reason) (b : Bool) → step.notes.down ≡ o → step.notes.up ≡ b → step.notes ≡ record { down = o; up = b }
    noted o b p q = ap (λ (x : Option Reason). record { down = x; up = step.notes.up }) p ∙ ap (λ (x : Bool). record { down = o; up = x }) q

    by : (d : Option Reason) → step.notes.down ≡ d → (u : Bool) → step.notes.up ≡ u → IsSound k step.side.near.outgoing
    by d is_d true is_u = subst (λ (x : LinkStation). IsSound k x.outgoing) (sym (tells.fresh_up is_u)) (none_sound k)
    by (Some reason) is_d false is_u = absurd (true≢false (sym up ∙ tells.left reason is_d is_u))
    by None is_d false is_u = running (sym (tells.stays (noted None false is_d is_u)) ∙ up)

-- where the link isn't up
sound_out : (k : ℕ) (p : Phase) (s : LinkStation) → is_up p ≡ false → s.phase ≡ p → is_up s.phase ≡ true → IsSound k s.outgoing
sound_out k p s out is up = absurd (true≢false (sym up ∙ ap is_up is ∙ out))

module _ (laws : LinkSettles) (c : LinkSettings) (small : c.window ≤ 7) where
  put_settled : (packet : List ℕ) (s : LinkStation) → Settled c.window s → Settled c.window (put_step c packet s).side.near
  put_settled packet s h = record {
    said = laws.put_says c packet s small h.said.low;
    sound = λ up. (let was : is_up s.phase ≡ true = sym (ap is_up (put_lasts c packet s).phase) ∙ up in
        (laws.put c packet s (record { up = was; sound = h.sound was })).sound);
  }

  all_settled : (packets : List PlainPacket) (t : Side) → Settled c.window t.near → Settled c.window (all_put c packets t).near
  all_settled [] t h = h
  all_settled (p ∷ packets) t h = all_settled packets (put_on c p t) (put_settled (spelling_of p) t.near h)

  all_given_settled : (g : PlainGiven) (packets : List PlainPacket) (t : Side) → Settled c.window t.near → Settled c.window (all_given c g packets t).near
  all_given_settled g [] t h = h
  all_given_settled g (p ∷ packets) t h =
      let given : List ℕ = write g (spelling_of p) in
      all_settled packets (station.behind t (put_step c given t.near).side) (put_settled given t.near h)

  timer_settled : (s : LinkStation) → Settled c.window s → Settled c.window (timer_step c s).side.near
  timer_settled s h = record {
    said = laws.timer_says c s small h.said.low;
    sound = sound_by c.window s (timer_step c s) (laws.timer_tells c s)
        (λ up. ending_sound c.window (if nat_lt s.tries c.retries then None else Some Retries) nothing s (timer_step c s)
        (laws.timer c s (record { up = up; sound = h.sound up })));
  }

  take_settled : (octets : List ℕ) (s : LinkStation) → Settled c.window s → Settled c.window (take_step c octets s).side.near
  take_settled octets s h =
      let read = frame_of (other c.role) c.longest octets in
      record {
        said = laws.take_says c octets s small h.said.low;
        sound = sound_by c.window s (take_step c octets s) (laws.take_tells c octets s)
            (λ up. ending_sound c.window (ending_of read (window_of c.window s)) (brought_by read) s (take_step c octets s)
            (laws.take c octets s (record { up = up; sound = h.sound up }) read refl));
      }

  abandon_settled : (s : LinkStation) → Settled c.window s → Settled c.window (abandon_step c s).side.near
  abandon_settled s h = record {
    said = laws.abandon_says c s;
    sound = sound_by c.window s (abandon_step c s) (laws.abandon_tells c s)
        (λ up. ending_sound c.window (Some Counts) nothing s (abandon_step c s) (laws.abandon c s (record { up = up; sound = h.sound up })));
  }

  connect_settled : (s : LinkStation) → s.outgoing.acked ≤ s.outgoing.place → Settled c.window (connect_step c s).side.near
  connect_settled s low = record {
    said = laws.connect_says c s low;
    sound = sound_out c.window Waiting (connect_step c s).side.near refl (ended_lasts c.window (link_connects (alone s)).side).phase;
  }

  disconnect_settled : (s : LinkStation) → Settled c.window (disconnect_step c s).side.near
  disconnect_settled s = record {
    said = laws.disconnect_says c s;
    sound = sound_out c.window Closed (disconnect_step c s).side.near refl
        (ended_lasts c.window (sends (disc true) (with_near (alone s) (disconnected c.disc_again)))).phase;
  }

  relink_settled : (s : LinkStation) → Settled c.window (relink_step c s).side.near
  relink_settled s = subst (λ (t : Side). Settled c.window t.near) (sym (laws.relink c s).connected) (connect_settled (with_nothing Down s.tries) (omega arith))

-- ---- a station

module _ (laws : LinkSettles) (c : Settings) (s : Station) (small : c.window ≤ 7) where
  behind : (t : Side) (n : Putting) (entries : List StationEntry) → Settled c.window t.near → IsSettled c (with_puts c t n entries).near
  behind t n entries h = let all = all_settled laws (link_settings c) small n.put t h in record { said = all.said; sound = all.sound }

  follows_settled : (k : LinkStep) → Settled c.window k.side.near → IsSettled c (follows c s k).near
  follows_settled k h = behind k.side (layer_at (view_of (link_settings c) s.turn k.side.near) (layer_settings c) c.wide s.layer k.packet k.notes.down k.notes.up)
      (follows c s k).entries h

  unless_settled : (o : Option LinkError) (step : Step) → IsSettled c step.near → SettledBy c (unless o step)
  unless_settled None step h = h
  unless_settled (Some e) step h = tt

  went_settled : (entries : List StationEntry) (a : Answered) → Settled c.window s.link → SettledBy c (did c (alone s.link) entries a)
  went_settled entries (Went n) h = behind (alone s.link) n entries h
  went_settled entries (Refuses e) h = tt

  gave_settled : (g : PlainGiven) (taken : Bool) (entries : List StationEntry) (a : Answered) → Settled c.window s.link
      → SettledBy c (gave c g taken (alone s.link) entries a)
  gave_settled g true entries (Went n) h = let all = all_given_settled laws (link_settings c) small g n.put (alone s.link) h in
      record { said = all.said; sound = all.sound }
  gave_settled g false entries (Went n) h = tt
  gave_settled g taken entries (Refuses e) h = tt

pub stays_settled : LinkSettles → StaysSettled
stays_settled laws c s (timer.Comes octets) small h = test (abandons c s)
  where
    lc : LinkSettings
    lc = link_settings c

    link : Settled c.window s.link
    link = record { said = h.said; sound = h.sound }

    test : (b : Bool) → (let k : LinkStep = if b then abandon_step lc s.link else take_step lc octets s.link in IsSettled c (follows c s k).near)
    test true = follows_settled laws c s small (abandon_step lc s.link) (abandon_settled laws lc small s.link link)
    test false = follows_settled laws c s small (take_step lc octets s.link) (take_settled laws lc small octets s.link link)
stays_settled laws c s timer.Fires small h =
    let lc : LinkSettings = link_settings c in
    unless_settled laws c s small (timer_refusal s.link) (ends c s (timer_step lc s.link))
    (follows_settled laws c s small (timer_step lc s.link) (timer_settled laws lc small s.link (record { said = h.said; sound = h.sound })))
stays_settled laws c s (timer.Asks (Requests request)) small h =
    let said = said_by c.say_sizes s.layer request in
    let view = view_of (link_settings c) s.turn s.link in
    where_holds (SettledBy c) (may_ask c.wide said) (requests_of c s.link s.layer view said) (λ e. tt)
    (went_settled laws c s small _ (calls view (layer_settings c) s.layer said) (record { said = h.said; sound = h.sound }))
stays_settled laws c s (timer.Asks (RequestsWith given request)) small h =
    let said = said_by c.say_sizes s.layer request in
    gave_settled laws c s small given (is_taken c given said) _ (calls (view_given (link_settings c) given s.turn s.link) (layer_settings c) s.layer said)
    (record { said = h.said; sound = h.sound })
stays_settled laws c s (timer.Asks Connects) small h =
    let lc : LinkSettings = link_settings c in
    unless_settled laws c s small (connect_refusal s.link.phase) (led_by (connect_asked ∷ []) (follows c s (connect_step lc s.link)))
    (follows_settled laws c s small (connect_step lc s.link) (connect_settled laws lc small s.link h.said.low))
stays_settled laws c s (timer.Asks Disconnects) small h =
    let lc : LinkSettings = link_settings c in
    unless_settled laws c s small (disconnect_refusal s.link.phase) (led_by (disconnect_asked ∷ []) (follows c s (disconnect_step lc s.link)))
    (follows_settled laws c s small (disconnect_step lc s.link) (disconnect_settled laws lc small s.link))
stays_settled laws c s (timer.Asks Probes) small h =
    let lc : LinkSettings = link_settings c in
    unless_settled laws c s small (probe_refusal s.link.phase) (follows c s (timer_step lc s.link))
    (follows_settled laws c s small (timer_step lc s.link) (timer_settled laws lc small s.link (record { said = h.said; sound = h.sound })))
stays_settled laws c s (timer.Asks Relinks) small h =
    let lc : LinkSettings = link_settings c in
    unless_settled laws c s small (relink_refusal s.link.phase) (led_by (relink_asked ∷ []) (follows c s (relink_step lc s.link)))
    (follows_settled laws c s small (relink_step lc s.link) (relink_settled laws lc small s.link))

pub new_is_settled : NewIsSettled
new_is_settled c = record { said = record { low = omega arith; settled = refl; calm = refl }; sound = λ up. absurd (true≢false (sym up)) }

pub settled_asks : LinkSettles → SettledAsks
settled_asks laws c s least h up = test (runs s) refl
  where
    test : (b : Bool) → runs s ≡ b → (b || (is_idle s.link && not b)) ≡ true
    test true is = refl
    test false is = ap (λ (b : Bool). b && true) (laws.idle c.window s.link least (h.sound up) h.said up is)

-- ---- what is pulled

-- a packet more is handed down: one waits, or isn't acknowledged
module _ (k : ℕ) (s t : LinkStation) (same : Lasts s t) (sound : is_up s.phase ≡ true → IsSound k s.outgoing)
    (more : length s.outgoing.given + 1 ≤ length t.outgoing.given) where
  not_idle : is_idle t ≡ true → ⊥
  not_idle is =
      let parts = and_parts (is_up t.phase) (waits t.outgoing == 0 && t.outgoing.acked == t.outgoing.sent) is in
      let counts = and_parts (waits t.outgoing == 0) (t.outgoing.acked == t.outgoing.sent) parts.1 in
      let none : waits t.outgoing ≡ 0 = eqb-true (waits t.outgoing) 0 counts.0 in
      let heard : t.outgoing.acked ≡ t.outgoing.sent = eqb-true t.outgoing.acked t.outgoing.sent counts.1 in
      let old : IsSound k s.outgoing = sound (ap is_up (sym same.phase) ∙ parts.0) in
      let low = old.place_low in
      let middle = old.place_high in
      let high = old.sent_high in
      let acked = same.acked in
      omega (arith, none, heard, low, middle, high, acked, more)

  not_at_rest : (ran : Bool) → (is_idle t && not ran) ≡ true → ⊥
  not_at_rest ran is = not_idle (and_parts (is_idle t) (not ran) is).0

no_entry : (c : Settings) (l : Layer) (full busy : Bool)
    → entries_of_outcome (layer_settings c) l PullsAll (outcome_in (layer_settings c) full busy l.restarts l.circuits PullsAll) ≡ []
no_entry c l full true = refl
no_entry c l full false = refl

pub pulls_go_on : PullsGoOn
pulls_go_on c s h = by (is_up s.link.phase) s.layer.restarting refl
  where
    lc : LinkSettings
    lc = link_settings c

    entries : List StationEntry
    entries = entries_of_outcome (layer_settings c) s.layer PullsAll (layer_outcome (layer_settings c) (waits s.link.outgoing == 256) s.layer PullsAll)

    rests : (packets : List PlainPacket)
        → (let t : LinkStation = (all_put lc packets (alone s.link)).near in (is_idle t && not (timer_runs t.phase t)) ≡ true → is_at_rest s ≡ true)
    rests [] is = is
    rests (p ∷ packets) is =
        let t : Side = with_near (alone s.link) (record s.link { outgoing = added (spelling_of p) s.link.outgoing }) in
        let u : Side = put_on lc p (alone s.link) in
        let v : LinkStation = (all_put lc packets u).near in
        let one : length (s.link.outgoing.given ++ spelling_of p ∷ []) ≡ length s.link.outgoing.given + 1 =
        length-append s.link.outgoing.given (spelling_of p ∷ []) in
        let first = (ended_lasts lc.window t).given in
        let then_rest = (all_put_lasts lc packets u).given in
        absurd (not_at_rest c.window s.link v (all_put_lasts lc (p ∷ packets) (alone s.link)) h.sound (omega (arith, one, first, then_rest))
        (timer_runs v.phase v) is)

    view : LinkView
    view = view_of lc s.turn s.link

    full : Bool
    full = waits s.link.outgoing == 256

    nothing_pulled : (e : LayerError) → GoesOn c s (pulled_of s (did c (alone s.link) entries (Refuses e)))
    nothing_pulled e = record { told = refl; restarting = refl; awaits = λ k. refl; acked = refl; rests = λ is. is }

    by : (up busy : Bool) → s.layer.restarting ≡ busy
        → GoesOn c s (pulled_of s (did c (alone s.link) entries
        (if up then went view (layer_settings c) (outcome_in (layer_settings c) full busy s.layer.restarts s.layer.circuits PullsAll)
        else Refuses layer_error.NotUp)))
    by false busy is = nothing_pulled layer_error.NotUp
    by true true is = nothing_pulled layer_error.Restarting
    by true false is =
        let begins : Putting = begin (is_ready s.layer.restarts s.layer.circuits) None in
        let n : Putting = rounds view (layer_settings c) begins in
        let same : SameAwaited begins.layer n.layer = rounds_same view (layer_settings c) begins in
        record {
          told = no_entry c s.layer full s.layer.restarting;
          restarting = same.0 ∙ sym is;
          awaits = λ k. ap (awaits_on (is_channel c.channels k)) (same.1 k);
          acked = (all_put_lasts lc n.put (alone s.link)).acked;
          rests = rests n.put;
        }
