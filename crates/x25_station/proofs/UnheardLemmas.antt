-- What a station asks while nothing is heard: T1 goes on, and each firing and each poll takes a try.
use Rattle.x25_station.proofs.Names.{Ending, disconnected, end_between, ends, entries_ended, gives_up}
use Rattle.x25_link.specs.Station.{is_asked}
use Rattle.x25_station.proofs.Names.{◌≡◌, ℕ, zero, suc, ◌+◌, ◌<◌, ◌≤◌, List, [], ◌∷◌, ◌++◌, Bool, true, false, ◌||◌, ◌&&◌, if◌then◌else◌, nat_lt, length}
use Rattle.x25_station.proofs.Names.{Option, Some, None, Result, Ok, Err, refl, sym, ap, subst, ◌∙◌, arith, max, or-true, true≢false, ltb-true, lt-ltb}
use Rattle.x25_station.proofs.Names.{PlainFrame, disc, frame_of, PlainGiven, write, is_full, Answered, Went, Refuses, calls, LinkStep, quiet, leaves, other}
use Rattle.x25_station.proofs.Names.{alone, put_step, take_step, timer_runs, timer_refusal, timer_step, asks_again, connect_refusal, connect_step}
use Rattle.x25_station.proofs.Names.{disconnect_refusal, disconnect_step, probe_refusal, relink_refusal, relink_step, abandon_step, closed_by, added}
use Rattle.x25_station.proofs.Names.{LinkSettings, LinkStation, Side, is_up, is_busy, with_near, with_nothing, sends, ready, may_send, send_next, pumped}
use Rattle.x25_station.proofs.Names.{owes_ready, ended, LinkError, Phase, Down, Waiting, Up, Closed, Reason, Retries, PlainPacket, spelling_of, Requests}
use Rattle.x25_station.proofs.Names.{RequestsWith, Connects, Disconnects, Probes, Relinks, said_by, may_ask, Settings, link_settings, layer_settings}
use Rattle.x25_station.proofs.Names.{StationEntry, connect_asked, disconnect_asked, relink_asked, entries_down, entries_up, all_given, view_given, is_taken}
use Rattle.x25_station.proofs.Names.{Station, put_on, all_put, view_of, Step, with_puts, follows, led_by, unless, abandons, did, with_given, gave, requests_of}
use Rattle.std.proofs.lemmas.List.{length-append}
use Rattle.x25_frame.specs.{Frame.{sabm, ua}, declared.error.FrameError.{FrameError}}
use Rattle.x25_link.specs.laws.SetUp.{TakeWaits, waiting_after, waiting_up}
use Rattle.x25_station.proofs.{DownLemmas.{downs, follows_down, timer_down, disconnect_down, relink_down}, MayLemmas.{where_holds}}
use Rattle.x25_station.{proofs.Names.{receives, tells_link}, specs.laws.UnheardLaw.{MayAsk, TakesTries, AsksOn, UnheardAsksOn}}
use Rattle.x25_station.specs.Station as station
use Rattle.x25_station.specs.laws.TimerLaw as timer

-- ---- what sending leaves as it is

pub record Lasts (s t : LinkStation) : Type 0 where
  pub phase : t.phase ≡ s.phase
  tries : t.tries ≡ s.tries
  pub acked : t.outgoing.acked ≡ s.outgoing.acked
  recovery : t.recovery ≡ s.recovery
  peer_busy : t.peer_busy ≡ s.peer_busy
  closing : t.closing ≡ s.closing
  sent : s.outgoing.sent ≤ t.outgoing.sent
  pub given : length s.outgoing.given ≤ length t.outgoing.given

lasts : (s : LinkStation) → Lasts s s
lasts s = record { phase = refl; tries = refl; acked = refl; recovery = refl; peer_busy = refl; closing = refl; sent = omega arith; given = omega arith }

lasts_on : (s t u : LinkStation) → Lasts s t → Lasts t u → Lasts s u
lasts_on s t u p q =
    let first = p.sent in
    let second = q.sent in
    let here = p.given in
    let there = q.given in
    record {
      phase = q.phase ∙ p.phase;
      tries = q.tries ∙ p.tries;
      acked = q.acked ∙ p.acked;
      recovery = q.recovery ∙ p.recovery;
      peer_busy = q.peer_busy ∙ p.peer_busy;
      closing = q.closing ∙ p.closing;
      sent = omega (arith, first, second);
      given = omega (arith, here, there);
    }

if_lasts : (s : LinkStation) (b : Bool) (u v : Side) → Lasts s u.near → Lasts s v.near → (let w : Side = if b then u else v in Lasts s w.near)
if_lasts s true u v p q = p
if_lasts s false u v p q = q

said_lasts : (s : LinkStation) (busy : Bool) → Lasts s (record s { said_busy = busy })
said_lasts s busy = record { phase = refl; tries = refl; acked = refl; recovery = refl; peer_busy = refl; closing = refl; sent = omega arith; given = omega arith }

pub ready_lasts : (command pf : Bool) (t : Side) → Lasts t.near (ready command pf t).near
ready_lasts command pf t = if_lasts t.near (is_busy t.near) _ _ (said_lasts t.near true) (said_lasts t.near false)

max_first : (a b : ℕ) → a ≤ max a b
max_first a b = omega arith

send_lasts : (t : Side) → Lasts t.near (send_next t).near
send_lasts t = record {
  phase = refl;
  tries = refl;
  acked = refl;
  recovery = refl;
  peer_busy = refl;
  closing = refl;
  sent = max_first t.near.outgoing.sent (t.near.outgoing.place + 1);
  given = omega arith;
}

pumped_lasts : (n k : ℕ) (t : Side) → Lasts t.near (pumped n k t).near
unfolding pumped
pumped_lasts zero k t = lasts t.near
pumped_lasts (suc n) k t =
    let u : Side = pumped n k t in
    if_lasts t.near (may_send k u.near) (send_next u) u (lasts_on t.near u.near (send_next u).near (pumped_lasts n k t) (send_lasts u)) (pumped_lasts n k t)

pub ended_lasts : (k : ℕ) (t : Side) → Lasts t.near (ended k t).near
ended_lasts k t =
    let u : Side = pumped 7 k t in
    if_lasts t.near (owes_ready u.near) (ready false false u) u
    (lasts_on t.near u.near (ready false false u).near (pumped_lasts 7 k t) (ready_lasts false false u)) (pumped_lasts 7 k t)

added_lasts : (packet : List ℕ) (s : LinkStation) → Lasts s (record s { outgoing = added packet s.outgoing })
added_lasts packet s =
    let one : length (s.outgoing.given ++ packet ∷ []) ≡ length s.outgoing.given + 1 = length-append s.outgoing.given (packet ∷ []) in
    record { phase = refl; tries = refl; acked = refl; recovery = refl; peer_busy = refl; closing = refl; sent = omega arith; given = omega (arith, one) }

pub put_lasts : (c : LinkSettings) (packet : List ℕ) (s : LinkStation) → Lasts s (put_step c packet s).side.near
put_lasts c packet s =
    let t : Side = with_near (alone s) (record s { outgoing = added packet s.outgoing }) in
    lasts_on s t.near (ended c.window t).near (added_lasts packet s) (ended_lasts c.window t)

pub all_put_lasts : (c : LinkSettings) (packets : List PlainPacket) (t : Side) → Lasts t.near (all_put c packets t).near
all_put_lasts c [] t = lasts t.near
all_put_lasts c (p ∷ packets) t = lasts_on t.near (put_on c p t).near (all_put c packets (put_on c p t)).near (put_lasts c (spelling_of p) t.near)
    (all_put_lasts c packets (put_on c p t))

pub all_given_last : (c : LinkSettings) (g : PlainGiven) (packets : List PlainPacket) (t : Side) → Lasts t.near (all_given c g packets t).near
all_given_last c g [] t = lasts t.near
all_given_last c g (p ∷ packets) t =
    let u : Side = station.behind t (put_step c (write g (spelling_of p)) t.near).side in
    lasts_on t.near u.near (all_put c packets u).near (put_lasts c (write g (spelling_of p)) t.near) (all_put_lasts c packets u)

-- ---- T1 runs on

runs_last : (p : Phase) (s t : LinkStation) → Lasts s t → timer_runs p s ≡ true → timer_runs p t ≡ true
runs_last Down s t same is = is
runs_last Waiting s t same is = is
runs_last Closed s t same is = ap is_asked same.closing ∙ is
runs_last Up s t same is = by (nat_lt s.outgoing.acked s.outgoing.sent) refl is
  where
    by : (b : Bool) → nat_lt s.outgoing.acked s.outgoing.sent ≡ b → (b || (s.recovery || s.peer_busy)) ≡ true
        → (nat_lt t.outgoing.acked t.outgoing.sent || (t.recovery || t.peer_busy)) ≡ true
    by true low e =
        let below : s.outgoing.acked < s.outgoing.sent = ltb-true _ _ low in
        let acked = same.acked in
        let sent = same.sent in
        ap (λ (b : Bool). b || (t.recovery || t.peer_busy)) (lt-ltb t.outgoing.acked t.outgoing.sent (omega (arith, below, acked, sent)))
    by false low e =
        let flags : (t.recovery || t.peer_busy) ≡ true = ap (λ (b : Bool). b || t.peer_busy) same.recovery ∙ ap (λ (b : Bool). s.recovery || b) same.peer_busy
        ∙ e in
        ap (λ (b : Bool). nat_lt t.outgoing.acked t.outgoing.sent || b) flags ∙ or-true (nat_lt t.outgoing.acked t.outgoing.sent)

runs_in : (p : Phase) (s : LinkStation) → s.phase ≡ p → timer_runs p s ≡ true → timer_runs s.phase s ≡ true
runs_in p s is on = ap (λ (x : Phase). timer_runs x s) is ∙ on

one_zero : {A : Type 0} (n : ℕ) → n ≡ 0 → n ≡ 1 → A
one_zero n none is = absurd (omega (arith, none, is))

-- nothing is asked of the link but to send
lasts_takes : (c : Settings) (s next : Station) → Lasts s.link next.link → TakesTries c s next 0
lasts_takes c s next same =
    let tries = same.tries in
    record {
      goes_on = λ on. runs_in s.link.phase next.link same.phase (runs_last s.link.phase s.link next.link same on);
      asked = λ is. one_zero 0 refl is;
      acked = same.acked;
      tries = omega (arith, tries);
      few = λ is. one_zero 0 refl is;
    }

-- T1 fires, or the link is polled: from a station with one try more
asked_takes : (c : Settings) (s next : Station) (u : LinkStation) → Lasts u next.link → u.tries ≡ s.link.tries + 1 → u.outgoing.acked ≡ s.link.outgoing.acked
    → timer_runs u.phase u ≡ true → s.link.tries < c.retries → TakesTries c s next 1
asked_takes c s next u same one acked on low =
    let tries = same.tries in
    let behind : timer_runs next.link.phase next.link ≡ true = runs_in u.phase next.link same.phase (runs_last u.phase u next.link same on) in
    record {
      goes_on = λ is. behind;
      asked = λ is. behind;
      acked = same.acked ∙ acked;
      tries = omega (arith, tries, one);
      few = λ is. omega (arith, tries, one, low);
    }

abbrev TakesQuietly : Settings → Station → ℕ → Step → Type 0
TakesQuietly c s n step = tells_link step.entries ≡ false → step.near.link.phase ≡ s.link.phase → TakesTries c s step.near n

-- a step that may end what a DISC awaits
end_asks : (c : Settings) (s : Station) (n : ℕ) (k : LinkStep) → TakesQuietly c s n (follows c s k) → TakesQuietly c s n (ends c s k)
end_asks c s n k h = by (end_between s.link k.side.near)
  where
    by : (e : Option Ending) → TakesQuietly c s n (led_by (entries_ended e) (follows c s k))
    by None = h
    by (Some ending) = h

fired : (c : Settings) (s : Station) → MayAsk s.link.phase → TakesQuietly c s 1 (follows c s (timer_step (link_settings c) s.link))
fired c s may = subst (TakesQuietly c s 1) (sym (timer_down c s s.link)) (by (nat_lt s.link.tries c.retries) refl)
  where
    more : LinkStation
    more = record s.link { tries = s.link.tries + 1 }

    asks : (p : Phase) → s.link.phase ≡ p → MayAsk p → s.link.tries < c.retries
        → (let t : Side = ended c.window (asks_again p (with_near (alone s.link) more)) in TakesTries c s (record { link = t.near; layer = s.layer; turn = s.turn }) 1)
    asks Down is may low = absurd may
    asks Closed is may low = absurd may
    asks Waiting is may low =
        let t : Side = sends (sabm true) (with_near (alone s.link) more) in
        asked_takes c s (record { link = (ended c.window t).near; layer = s.layer; turn = s.turn }) more (ended_lasts c.window t) refl refl (runs_in Waiting more is refl) low
    asks Up is may low =
        let u : LinkStation = record more { recovery = true } in
        let t : Side = ready true true (with_near (alone s.link) u) in
        asked_takes c s (record { link = (ended c.window t).near; layer = s.layer; turn = s.turn }) u
        (lasts_on u t.near (ended c.window t).near (ready_lasts true true (with_near (alone s.link) u)) (ended_lasts c.window t)) refl refl
        (runs_in Up u is (or-true (nat_lt u.outgoing.acked u.outgoing.sent))) low

    gives : (p : Phase) → MayAsk p → (let k : LinkStep = closed_by c.window (gives_up p (alone s.link)) in TakesQuietly c s 1 (downs s k.side k.notes.down))
    gives Closed may = absurd may
    gives p may = λ quiet same. absurd (true≢false quiet)

    by : (b : Bool) → nat_lt s.link.tries c.retries ≡ b
        → (let k : LinkStep =
        closed_by c.window (if b then quiet (asks_again s.link.phase (with_near (alone s.link) more)) else gives_up s.link.phase (alone s.link))
        in TakesQuietly c s 1 (downs s k.side k.notes.down))
    by true low = λ quiet same. asks s.link.phase refl may (ltb-true _ _ low)
    by false low = gives s.link.phase may

-- ---- while UA is awaited

nothing_heard : (read : Result PlainFrame FrameError) (s : LinkStation) → waiting_up read ≡ false → waiting_after read s ≡ s
nothing_heard (Err e) s is = refl
nothing_heard (Ok (ua true)) s is = absurd (true≢false is)
nothing_heard (Ok frame) s is = refl

not_up : (d : Option Reason) (u : Bool) (entries : List StationEntry) → tells_link ((entries_down d ++ entries_up u) ++ entries) ≡ false → u ≡ false
not_up (Some reason) u entries none = absurd (true≢false none)
not_up None true entries none = absurd (true≢false none)
not_up None false entries none = refl

same_link : (s t : LinkStation) → t ≡ s → Lasts s t
same_link s t is = subst (λ (x : LinkStation). Lasts s x) (sym is) (lasts s)

heard_waiting : TakeWaits → (c : Settings) (s : Station) (octets : List ℕ) → s.link.phase ≡ Waiting
    → TakesQuietly c s 0 (follows c s (take_step (link_settings c) octets s.link))
heard_waiting waits c s octets is quiet same =
    let k : LinkStep = take_step (link_settings c) octets s.link in
    let read : Result PlainFrame FrameError = frame_of (other c.role) (link_settings c).longest octets in
    let row = waits (link_settings c) octets s.link is read refl in
    let down : k.notes.up ≡ false = not_up k.notes.down k.notes.up _ quiet in
    let near : (follows c s k).near.link ≡ s.link = ap (λ (x : Step). x.near.link) (follows_down c s k row.packet down) ∙ row.near
    ∙ nothing_heard read s.link (sym row.up ∙ down) in
    lasts_takes c s (follows c s k).near (same_link s.link (follows c s k).near.link near)

heard : TakeWaits → (c : Settings) (s : Station) (octets : List ℕ) → s.link.phase ≡ Waiting → TakesQuietly c s 0 (receives c s octets)
heard waits c s octets is =
    let no : abandons c s ≡ false = ap (λ (p : Phase). is_up p && is_full (layer_settings c) s.layer) is in
    subst (λ (b : Bool). let k : LinkStep = if b then abandon_step (link_settings c) s.link else take_step (link_settings c) octets s.link in
    TakesQuietly c s 0 (ends c s k)) (sym no)
    (end_asks c s 0 (take_step (link_settings c) octets s.link) (heard_waiting waits c s octets is))

-- ---- the events

unless_asks : (c : Settings) (s : Station) (n : ℕ) (o : Option LinkError) (step : Step) → TakesQuietly c s n step → AsksOn c s n (unless o step)
unless_asks c s n None step go = go
unless_asks c s n (Some e) step go = tt

went_asks : (c : Settings) (s : Station) (entries : List StationEntry) (a : Answered) → AsksOn c s 0 (did c (alone s.link) entries a)
went_asks c s entries (Went n) = λ quiet same. lasts_takes c s (with_puts c (alone s.link) n entries).near
    (all_put_lasts (link_settings c) n.put (alone s.link))
went_asks c s entries (Refuses e) = tt

gave_asks : (c : Settings) (s : Station) (g : PlainGiven) (taken : Bool) (entries : List StationEntry) (a : Answered)
    → AsksOn c s 0 (gave c g taken (alone s.link) entries a)
gave_asks c s g true entries (Went n) = λ quiet same. lasts_takes c s (with_given c g (alone s.link) n entries).near
    (all_given_last (link_settings c) g n.put (alone s.link))
gave_asks c s g false entries (Went n) = tt
gave_asks c s g taken entries (Refuses e) = tt

connect_asks : (c : Settings) (s : Station) (p : Phase) (step : Step) → MayAsk p → AsksOn c s 0 (unless (connect_refusal p) step)
connect_asks c s Down step may = absurd may
connect_asks c s Waiting step may = tt
connect_asks c s Up step may = tt
connect_asks c s Closed step may = absurd may

disconnect_asks : (c : Settings) (s : Station) → MayAsk s.link.phase
    → TakesQuietly c s 0 (led_by (disconnect_asked ∷ []) (follows c s (disconnect_step (link_settings c) s.link)))
disconnect_asks c s may quiet same =
    let t : Side = sends (disc true) (with_near (alone s.link) (disconnected c.wide)) in
    let closed : s.link.phase ≡ Closed = sym same ∙ ap (λ (x : Step). x.near.link.phase) (disconnect_down c s s.link) ∙ (ended_lasts c.window t).phase in
    absurd (subst MayAsk closed may)

relink_asks : (c : Settings) (s : Station) → TakesQuietly c s 0 (led_by (relink_asked ∷ []) (follows c s (relink_step (link_settings c) s.link)))
relink_asks c s quiet same = absurd (true≢false (sym (ap (λ (x : Step). tells_link x.entries) (relink_down c s s.link)) ∙ quiet))

pub unheard_asks_on : TakeWaits → UnheardAsksOn
unheard_asks_on waits c s (timer.Comes octets) may is = heard waits c s octets is
unheard_asks_on waits c s timer.Fires may is = unless_asks c s 1 (timer_refusal s.link) (ends c s (timer_step (link_settings c) s.link))
    (end_asks c s 1 (timer_step (link_settings c) s.link) (fired c s may))
unheard_asks_on waits c s (timer.Asks (Requests request)) may is =
    let said = said_by c.say_sizes s.layer request in
    let view = view_of (link_settings c) s.turn s.link in
    where_holds (AsksOn c s 0) (may_ask c.wide said) (requests_of c s.link s.layer view said) (λ e. tt)
    (went_asks c s _ (calls view (layer_settings c) s.layer said))
unheard_asks_on waits c s (timer.Asks (RequestsWith given request)) may is =
    let said = said_by c.say_sizes s.layer request in
    gave_asks c s given (is_taken c given said) _ (calls (view_given (link_settings c) given s.turn s.link) (layer_settings c) s.layer said)
unheard_asks_on waits c s (timer.Asks Connects) may is = connect_asks c s s.link.phase
    (led_by (connect_asked ∷ []) (follows c s (connect_step (link_settings c) s.link))) may
unheard_asks_on waits c s (timer.Asks Disconnects) may is =
    unless_asks c s 0 (disconnect_refusal s.link.phase) (led_by (disconnect_asked ∷ []) (follows c s (disconnect_step (link_settings c) s.link)))
    (disconnect_asks c s may)
unheard_asks_on waits c s (timer.Asks Probes) may is = unless_asks c s 1 (probe_refusal s.link.phase) (follows c s (timer_step (link_settings c) s.link))
    (fired c s may)
unheard_asks_on waits c s (timer.Asks Relinks) may is =
    unless_asks c s 0 (relink_refusal s.link.phase) (led_by (relink_asked ∷ []) (follows c s (relink_step (link_settings c) s.link))) (relink_asks c s)
