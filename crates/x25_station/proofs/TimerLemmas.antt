-- A deadline that is held by what T1 becomes stands exactly while T1 runs, and T1 begins anew where it is due to.
use Rattle.x25_station.proofs.Names.{Closed, Closing, Asked, GivenUp, answered, ends, gives_up}
use Rattle.x25_station.specs.Entry.{disconnected}
use Rattle.x25_station.proofs.Names.{◌≡◌, ◌+◌, ◌≤◌, inl, inr, Bool, true, false, not, ◌||◌, if◌then◌else◌, List, [], ◌∷◌, Option, Some, None, refl, sym, ap}
use Rattle.x25_station.proofs.Names.{◌∙◌, arith, or-true, true≢false, le-ltb, lt-ltb, PlainGiven, Layer, Answered, Went, Refuses, calls, LinkStep, quiet}
use Rattle.x25_station.proofs.Names.{leaves, alone, connect_refusal, disconnect_refusal, asks_again, timer_refusal, timer_step, probe_refusal, relink_refusal}
use Rattle.x25_station.proofs.Names.{closed_by, LinkSettings, Side, with_near, LinkError, Phase, Up, Retries, Requests, RequestsWith, Connects, Disconnects}
use Rattle.x25_station.proofs.Names.{Probes, Relinks, said_by, may_ask, Settings, link_settings, layer_settings, at_fault, was_confirmed, link_up, link_down}
use Rattle.x25_station.proofs.Names.{came_beside, was_diagnosed, StationEntry, of_channel, restart_asked, connect_asked, disconnect_asked, relink_asked}
use Rattle.x25_station.proofs.Names.{was_restarted, restart_confirmed, view_given, Station, view_of, Step, Outcome, Did, Refused, layer_at, follows, unless}
use Rattle.x25_station.proofs.Names.{did, gave, requests_of, commands, fires, runs, tells_link, is_acknowledged, timer_of, pulled_timer, Timer}
use Rattle.std.specs.Prelude.{nat_lt}
use Rattle.x25_station.proofs.MayLemmas.{where_holds}
use Rattle.x25_station.{proofs.UnheardLemmas.{ready_lasts, ended_lasts, all_put_lasts, all_given_last}, specs.Command.{Command}, specs.Pulling.{pulled}}
use Rattle.x25_station.specs.declared.timer.Timer.TheVariants.{Begins}
use Rattle.x25_station.specs.laws.TimerLaw.{StationEvent, Comes, Asks, Fires, Watched, heeds, after, watched_by, watched_from, IsFiring, TellsLink, IsDue}
use Rattle.x25_link.specs.declared.error.LinkError.TheVariants as link_error
use Rattle.x25_link.specs.Link as link
use Rattle.x25_station.specs.declared.error.StationError.TheVariants as error
use Rattle.x25_station.specs.Giving as giving
use Rattle.x25_station.specs.laws.TimerLaw as law

-- where T1 ran before and nothing began it anew, the deadline stood
heeded : (ran behind other stands : Bool) → stands ≡ ran → heeds (timer_of behind (not ran || other)) stands ≡ behind
heeded ran false other stands is = refl
heeded false true other stands is = refl
heeded true true false stands is = is
heeded true true true stands is = refl

refused_heeded : (ran stands : Bool) → stands ≡ ran → heeds (timer_of ran false) stands ≡ ran
refused_heeded false stands is = refl
refused_heeded true stands is = is

marked : (s : Station) (event : StationEvent) (o : Outcome) (stands : Bool) → stands ≡ runs s → heeds (law.timer s event o) stands ≡ runs (after s o)
marked s event (Did step) stands is = heeded (runs s) (runs step.near) _ stands is
marked s event (Refused e) stands is = refused_heeded (runs s) stands is

from_here : (c : Settings) (events : List StationEvent) (w : Watched) → w.stands ≡ runs w.station → let u = watched_from c events w in u.stands ≡ runs u.station
from_here c [] w is = is
from_here c (event ∷ events) w is = from_here c events (watched_by c event w) (marked w.station event (law.outcome c w.station event) w.stands is)

pub deadline_is_true : law.DeadlineIsTrue
deadline_is_true c events = from_here c events _ refl

taken : (b : Bool) (step : Step) → b ≡ true → (found : Step) × (unless (if b then None else Some link_error.NotRunning) step ≡ Did found)
taken true step is = (step, refl)
taken false step is = absurd (true≢false (sym is))

pub firing_is_taken : law.FiringIsTaken
firing_is_taken c events is =
    let w = law.watched c events in
    taken (runs w.station) (ends c w.station (timer_step (link_settings c) w.station.link)) (sym (deadline_is_true c events) ∙ is)

refused : (b : Bool) (step : Step) → b ≡ false → unless (if b then None else Some link_error.NotRunning) step ≡ Refused (error.Link link_error.NotRunning)
refused true step is = absurd (true≢false is)
refused false step is = refl

pub off_is_refused : law.OffIsRefused
off_is_refused c s is = refused (runs s) (ends c s (timer_step (link_settings c) s.link)) is

pulled_heeded : (first : Timer) (ran behind stands : Bool) → heeds first stands ≡ ran → heeds (pulled_timer first ran behind) stands ≡ behind
pulled_heeded first ran false stands is = refl
pulled_heeded first true true stands is = is
pulled_heeded first false true stands is = refl

pub pull_is_heeded : law.PullIsHeeded
pull_is_heeded c s first stands is = pulled_heeded first (runs s) (runs (pulled c s).near) stands is

-- ---- what a call acknowledges by which nothing is heard: nothing

-- the end of the link's step, and then what the layer puts, acknowledge no more
pub follows_acked : (c : Settings) (l : Station) (k : LinkStep) → (follows c l k).near.link.outgoing.acked ≡ k.side.near.outgoing.acked
follows_acked c l k = (all_put_lasts (link_settings c)
    (layer_at (view_of (link_settings c) l.turn k.side.near) (layer_settings c) c.wide l.layer k.packet k.notes.down k.notes.up).put k.side).acked

abbrev pub HearsNone : Station → Outcome → Type 0
HearsNone s (Did step) = is_acknowledged s.link step.near.link ≡ false
HearsNone s (Refused e) = Unit {0}

-- a step of the link that acknowledges no more
followed : (c : Settings) (s : Station) (k : LinkStep) → k.side.near.outgoing.acked ≤ s.link.outgoing.acked
    → is_acknowledged s.link (follows c s (closed_by c.window k)).near.link ≡ false
followed c s k few =
    let put = follows_acked c s (closed_by c.window k) in
    let same = (ended_lasts c.window k.side).acked in
    le-ltb _ _ (omega (arith, put, same, few))

unless_none : (s : Station) (ground : Option LinkError) (step : Step) → is_acknowledged s.link step.near.link ≡ false → HearsNone s (unless ground step)
unless_none s None step none = none
unless_none s (Some e) step none = tt

did_none : (c : Settings) (s : Station) (entries : List StationEntry) (a : Answered) → HearsNone s (did c (alone s.link) entries a)
did_none c s entries (Went p) = let same = (all_put_lasts (link_settings c) p.put (alone s.link)).acked in le-ltb _ _ (omega (arith, same))
did_none c s entries (Refuses e) = tt

gave_none : (c : Settings) (s : Station) (g : PlainGiven) (taken : Bool) (entries : List StationEntry) (a : Answered)
    → HearsNone s (gave c g taken (alone s.link) entries a)
gave_none c s g true entries (Went p) = let same = (all_given_last (link_settings c) g p.put (alone s.link)).acked in le-ltb _ _ (omega (arith, same))
gave_none c s g false entries (Went p) = tt
gave_none c s g taken entries (Refuses e) = tt

fired_few : (c : LinkSettings) (t : Side) → (link.fires c t).side.near.outgoing.acked ≤ t.near.outgoing.acked
fired_few c t = by (nat_lt t.near.tries c.retries)
  where
    up : Side
    up = with_near t (record t.near { tries = t.near.tries + 1 })

    asked : (phase : Phase) → (asks_again phase up).near.outgoing.acked ≤ t.near.outgoing.acked
    asked Up = let same = (ready_lasts true true (with_near up (record up.near { recovery = true }))).acked in omega (arith, same)
    asked phase = omega arith

    ended : (closing : Closing) → (answered GivenUp closing t).near.outgoing.acked ≤ t.near.outgoing.acked
    ended Asked = omega arith
    ended closing = omega arith

    last : (phase : Phase) → (gives_up phase t).side.near.outgoing.acked ≤ t.near.outgoing.acked
    last Closed = ended t.near.closing
    last phase = omega arith

    by : (b : Bool) → (if b then quiet (asks_again t.near.phase up) else gives_up t.near.phase t).side.near.outgoing.acked ≤ t.near.outgoing.acked
    by true = asked t.near.phase
    by false = last t.near.phase

pub fired_none : (c : Settings) (s : Station) → HearsNone s (fires c s)
fired_none c s = unless_none s (timer_refusal s.link)
    _ (followed c s (link.fires (link_settings c) (alone s.link)) (fired_few (link_settings c) (alone s.link)))

pub asked_none : (c : Settings) (s : Station) (command : Command) → HearsNone s (commands c s command)
asked_none c s (Requests request) =
    let said = said_by c.say_sizes s.layer request in
    let view = view_of (link_settings c) s.turn s.link in
    where_holds (HearsNone s) (may_ask c.wide said) (requests_of c s.link s.layer view said) (λ e. tt)
    (did_none c s _ (calls view (layer_settings c) s.layer said))
asked_none c s (RequestsWith given request) =
    let said = said_by c.say_sizes s.layer request in
    gave_none c s given (giving.is_taken c given said) _ (calls (view_given (link_settings c) given s.turn s.link) (layer_settings c) s.layer said)
asked_none c s Connects = unless_none s (connect_refusal s.link.phase) _ (followed c s (link.connects (alone s.link)) (omega arith))
asked_none c s Disconnects = unless_none s (disconnect_refusal s.link.phase) _ (followed c s (link.disconnects c.wide (alone s.link)) (omega arith))
asked_none c s Probes = unless_none s (probe_refusal s.link.phase)
    _ (followed c s (link.fires (link_settings c) (alone s.link)) (fired_few (link_settings c) (alone s.link)))
asked_none c s Relinks = unless_none s (relink_refusal s.link.phase) _ (followed c s (link.relinks (alone s.link)) (omega arith))

-- ---- where T1 is due to begin anew

told_link : (entries : List StationEntry) → TellsLink entries → tells_link entries ≡ true
told_link [] told = absurd told
told_link (link_up ∷ entries) told = refl
told_link (of_channel entry ∷ entries) told = told_link entries told
told_link (restart_asked cause diagnostic ∷ entries) told = told_link entries told
told_link (connect_asked ∷ entries) told = told_link entries told
told_link (disconnect_asked ∷ entries) told = told_link entries told
told_link (relink_asked ∷ entries) told = told_link entries told
told_link (link_down reason ∷ entries) told = refl
told_link (disconnected ending ∷ entries) told = told_link entries told
told_link (was_restarted cause diagnostic ∷ entries) told = told_link entries told
told_link (restart_confirmed ∷ entries) told = told_link entries told
told_link (at_fault diagnostic ∷ entries) told = told_link entries told
told_link (came_beside channel facilities user ∷ entries) told = told_link entries told
told_link (was_diagnosed diagnostic ∷ entries) told = told_link entries told
told_link (was_confirmed channel name count ∷ entries) told = told_link entries told

fires_due : (event : StationEvent) → IsFiring event → law.is_firing event ≡ true
fires_due Fires is = refl
fires_due (Comes octets) is = absurd is
fires_due (Asks command) is = absurd is

is_due : (s : Station) (event : StationEvent) (step : Step) → IsDue s event step
    → (law.is_firing event || (tells_link step.entries || is_acknowledged s.link step.near.link)) ≡ true
is_due s event step (inl firing) = ap (λ (b : Bool). b || (tells_link step.entries || is_acknowledged s.link step.near.link)) (fires_due event firing)
is_due s event step (inr (inl up)) =
    ap (λ (b : Bool). law.is_firing event || (b || is_acknowledged s.link step.near.link)) (told_link step.entries up) ∙ or-true (law.is_firing event)
is_due s event step (inr (inr rises)) =
    ap (λ (b : Bool). law.is_firing event || (tells_link step.entries || b)) (lt-ltb s.link.outgoing.acked step.near.link.outgoing.acked rises)
    ∙ ap (λ (b : Bool). law.is_firing event || b) (or-true (tells_link step.entries)) ∙ or-true (law.is_firing event)

due : (ran runs_on other : Bool) → runs_on ≡ true → other ≡ true → timer_of runs_on (not ran || other) ≡ Begins
due ran false other on is = absurd (true≢false (sym on))
due ran true false on is = absurd (true≢false (sym is))
due false true true on is = refl
due true true true on is = refl

pub begins_where_due : law.BeginsWhereDue
begins_where_due c s event step is is_so on = due (runs s) (runs step.near) _ on (is_due s event step is_so)

due_pulled : (first : Timer) (ran runs_on : Bool) → (ran ≡ true → first ≡ Begins) → runs_on ≡ true → pulled_timer first ran runs_on ≡ Begins
due_pulled first ran false begins on = absurd (true≢false (sym on))
due_pulled first true true begins on = begins refl
due_pulled first false true begins on = refl

pub begins_behind_pull : law.BeginsBehindPull
begins_behind_pull c s event step is is_so on = due_pulled (law.timer s event (Did step)) (runs step.near) (runs (pulled c step.near).near)
    (begins_where_due c s event step is is_so) on
