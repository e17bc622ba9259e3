-- Where none asks for set-up, no session begins, until a Connect is accepted; so the link isn't set up anew.
use Rattle.x25_line.proofs.Names.{◌≡◌, ◌≤◌, ℕ, ◌+◌, List, [], ◌∷◌, ◌++◌, length, suc, inr, Bool, true, false, Ok, refl, sym, ap, ◌∙◌, subst, arith, nat_lt}
use Rattle.x25_line.proofs.Names.{◌||◌, ltb-false, disc, ua, dm, frmr, ReadsSpelled, Phase, Down, Waiting, Up, Closed, LinkSettings, is_up, fresh, other}
use Rattle.x25_line.proofs.Names.{connect_refusal, timer_runs, StationEnd, Stations, Act, T1, Connect, LinkEvent, Near, Far, stations_swapped, start}
use Rattle.x25_line.proofs.Names.{line_swapped, AreJoined, Entry, SessionEnd, Sessions, letters, begun_by, acts, swapped, happens, from_set_up}
use Rattle.std.proofs.lemmas.Bool.{lt-ltb}
use Rattle.x25_line.proofs.{Names.{machine_at_start, Throughout, SessionLaws, LessAt, IsSeenIn, said, sabm_of, how_many}, StationAway.{is_up_phase}}
use Rattle.x25_line.proofs.{StationEvents.{or_false, each_hands_one}, StationRuns.{act_joint, few_acts, joint_swapped, start_machine}}
use Rattle.x25_line.proofs.{StationSteps.{Holds, not_both}, ends.Lines.{count_less}, sessions.Acts.{acts_still}, sessions.Letters.{letters_less}}
use Rattle.x25_line.proofs.sessions.{SessionHeld.{Owes}, SessionLines.{Read, number_kinds, many_append}, SessionMay.{sends_read, entry, Known, MayDo, Kind}}
use Rattle.x25_line.proofs.sessions.{SessionSeen.{Seen}, SessionSeenRuns.{other_owes, Both, both_swapped, event_both, begin_both}}
use Rattle.x25_line.proofs.sessions.{SessionSeenSteps.{IsTimely, station_acts}, SessionsForgotten.{Lasts, Alike, happens_alike, turned_alike}}
use Rattle.x25_line.{proofs.sessions.TwoSessions.{throughout_of}, specs.laws.SessionEvents.{IsUnasked, BeginNone, NoneBeginUnasked}}
use Rattle.x25_line.specs.laws.StationClaims.{AcceptsNoConnect, AcceptsNoConnectAt, NoneConnects, OneLinkUnlessConnected}
use Rattle.x25_line.specs.laws.Stations as one
use Rattle.x25_line.specs.laws.Sessions as session

-- ---- an end that doesn't await UA, with no SABM on its lines, after n sessions

pub record IsQuiet (d : LinkSettings) (n : ℕ) (es : List Entry) (p : Phase) (b : ℕ) (out : List Entry) : Type 0 where
  pub still : p ≡ Waiting → ⊥
  pub comes : how_many sabm_of (letters (other d.role) d.longest es) ≡ 0
  pub sent : how_many sabm_of (letters d.role d.longest out) ≡ 0
  pub begun : b ≡ n

module _ (d : LinkSettings) (n : ℕ) where
  abbrev R : Known
  R es met p b all out = IsQuiet d n es p b out

  push : {es out : List Entry} {p : Phase} {b : ℕ} (q : Phase) (octets : List ℕ) (r : Read) → sends_read d octets ≡ r → sabm_of (said r) ≡ 0 → (q ≡ Waiting → ⊥)
      → IsQuiet d n es p b out
      → IsQuiet d n es q b (out ++ entry b octets ∷ [])
  push {es} {out} {p} {b} q octets r read none still h =
      let all = many_append d.role d.longest sabm_of out (entry b octets ∷ []) in
      let one = ap (λ r. sabm_of (said r)) read in
      let before = h.sent in
      record { still = still; comes = h.comes; sent = omega (arith, all, one, none, before); begun = h.begun }

  less : {i : ℕ} {es fs out : List Entry} {p : Phase} {b : ℕ} → LessAt IsSeenIn i es fs → IsQuiet d n es p b out → IsQuiet d n fs p b out
  less l h =
      let fewer = count_less sabm_of refl (letters_less (other d.role) d.longest l) in
      let none = h.comes in
      record { still = h.still; comes = omega (arith, fewer, none); sent = h.sent; begun = h.begun }

  front : {e : Entry} {es out : List Entry} {p : Phase} {b : ℕ} → IsQuiet d n (e ∷ es) p b out → IsQuiet d n es p b out
  front h = record { still = h.still; comes = omega (arith, h.comes); sent = h.sent; begun = h.begun }

  -- an end that awaits UA has a timer that runs
  never : {q : Phase} → timer_runs q fresh ≡ false → q ≡ Waiting → ⊥
  never stopped waits = not_both true refl (ap (λ q. timer_runs q fresh) (sym waits) ∙ stopped)

  quiet_may : MayDo d (λ p es. ⊥) R
  quiet_may = record {
    handed = λ es met b all out packet h. h;
    tells = λ es met b all out octets f q read number may h. push Up octets (Ok f) read (number_kinds (Ok f) f number).0 (never refl) h;
    declines = λ es met p b all out octets f read h. push p octets (Ok (dm f)) read refl h.still h;
    asks = λ es met p b all out octets pf read due clear h. absurd due;
    closes = λ es met p b all out octets pf read h. push Closed octets (Ok (disc pf)) read refl (never refl) h;
    leaves = λ es met b all out h. record { still = never refl; comes = h.comes; sent = h.sent; begun = h.begun };
    gives_up = λ es met b all out due clear h. absurd due;
    passes = λ e es met p b all out h. front h;
    hears = λ e es met b all out q may h. front h;
    takes_ua = λ e es met b all out read h. absurd (h.still refl);
    takes_sabm = λ e es met p b all out octets pf f read answer part h. absurd (omega (arith, ap (λ r. sabm_of (said r)) read, h.comes));
    waits_on = λ e es met b all out octets pf f read answer h. absurd (h.still refl);
    takes_disc = λ e es met b all out octets pf f read answer h. push Down octets (Ok (ua f)) answer refl (never refl) (front h);
    faults = λ e es met b all out octets f why ending read h. push Down octets (Ok (frmr f why)) read refl (never refl) (front h);
    loses = λ met p b all out l h. less l h;
  }

-- ---- an event

unasked_turned : {c d : LinkSettings} → AreJoined c d → {w : Sessions} → IsUnasked c w → IsUnasked d (swapped w)
unasked_turned joined h = record {
  near = h.far;
  far = h.near;
  out = rw (sym joined.far_role, sym joined.longest) h.back;
  back = rw (joined.near_role, sym joined.longest) h.out;
}

module _ (reads : ReadsSpelled) (rests : SessionLaws) where
  abbrev kind : (c : LinkSettings) → c.window ≤ 7 → ℕ → Kind c
  kind c high n = record { high = high; reads = reads; rests = rests; Due = λ p es. ⊥; R = R c n; does = quiet_may c n }

  act_timely : {c : LinkSettings} (high : c.window ≤ 7) {w : Sessions} → IsUnasked c w → (act : Act) → AcceptsNoConnect act w.near.station
      → IsTimely (kind c high w.near.begun) act w
  act_timely high h T1 none = λ waiting. absurd (h.near waiting)
  act_timely high h Connect none = λ down. absurd (none (ap connect_refusal down))
  act_timely high h act none = tt

  act_begins_none : {c d : LinkSettings} {w : Sessions} → Both c d w → IsUnasked c w → (act : Act) → AcceptsNoConnect act w.near.station
      → BeginNone c w (acts c act w)
  act_begins_none {c} {d} {w} both h act none =
      let s = both.near in
      let still = acts_still c act w in
      let seen : Seen c (R c w.near.begun) w = record {
        all = s.all;
        reached = record { still = h.near; comes = h.back; sent = h.out; begun = refl };
        up = s.up;
        given = s.given;
        taken = s.taken;
        later = s.later;
        tags = s.tags;
      } in
      let k = (station_acts (kind c both.joined.near_high w.near.begun) act w (act_timely both.joined.near_high h act none)
      (other_owes c d both.joined reads rests both.far) seen).reached in
      record {
        unasked = record { near = k.still; far = rw still.far h.far; out = k.sent; back = k.comes };
        near = k.begun;
        far = ap (λ e. e.begun) still.far;
      }

  pub none_begin_unasked : Throughout NoneBeginUnasked
  none_begin_unasked = throughout_of reads rests NoneBeginUnasked (λ c d w both. record {
    up = λ near far. record {
      near = λ waits. not_both (is_up w.near.station.phase) near (ap is_up waits);
      far = λ waits. not_both (is_up w.far.station.phase) far (ap is_up waits);
      out = none_owed _ _ _ _ (is_up_phase w.near.station.phase near) (other_owes c d both.joined reads rests both.far);
      back = rw (both.joined.far_role, both.joined.longest)
          (none_owed _ _ _ _ (is_up_phase w.far.station.phase far) (other_owes d c both.turn reads rests both.near));
    };
    stays = by c d w both;
  })
    where
      none_owed : (p : Phase) (n m k : ℕ) → p ≡ Up → Owes p (n + m) k → n ≡ 0
      none_owed p n m k up owes = (let none = (subst (λ q. Owes q (n + m) k) up owes).0 in omega (arith, none))

      by : (c d : LinkSettings) (w : Sessions) → Both c d w → IsUnasked c w → (event : LinkEvent)
          → AcceptsNoConnectAt event w.near.station w.far.station → BeginNone c w (happens c d event w)
      by c d w both h (Near act) none = act_begins_none both h act none
      by c d w both h (Far act) none =
          let begins = act_begins_none (both_swapped both) (unasked_turned both.joined h) act none in
          record { unasked = unasked_turned both.turn begins.unasked; near = begins.far; far = begins.near }

-- ---- two stations by themselves, where no Connect is accepted

-- an end began a session, and its station by itself noted LinkUp where that isn't the first
pub record IsFirst (e : SessionEnd) (v : StationEnd) : Type 0 where
  pub station : v.station ≡ e.station
  pub low : 1 ≤ e.begun
  pub later : v.came_up ≡ nat_lt 1 e.begun

pub first_lasts : Lasts IsFirst
first_lasts = record {
  station = λ e v h. h.station;
  steps = λ e v h down step. (let k = goes_on e.begun v.came_up step.notes.up h.low h.later in record { station = refl; low = k.0; later = k.1 });
}
  where
    goes_on : (n : ℕ) (u b : Bool) → 1 ≤ n → u ≡ nat_lt 1 n → (1 ≤ begun_by b n) × ((u || b) ≡ nat_lt 1 (begun_by b n))
    goes_on n true true low later = (omega arith, sym (lt-ltb 1 (suc n) (omega (arith, low))))
    goes_on n false true low later = (omega arith, sym (lt-ltb 1 (suc n) (omega (arith, low))))
    goes_on n u false low later = (low, or_false u ∙ later)

-- the first session of an end, by what its station noted
pub begun_once : {e : SessionEnd} {v : StationEnd} → IsFirst e v → v.came_up ≡ false → e.begun ≡ 1
begun_once {e} h once = omega (arith, h.low, ltb-false 1 e.begun (sym h.later ∙ once))

pub once_begun : {e : SessionEnd} {v : StationEnd} → IsFirst e v → e.begun ≡ 1 → v.came_up ≡ false
once_begun h is = h.later ∙ ap (nat_lt 1) is

-- a link that was just set up
pub first_alike : Alike IsFirst ⊥ from_set_up start
first_alike =
    let fresh : IsFirst from_set_up.near start.near = record { station = refl; low = omega arith; later = refl } in
    record { near = fresh; far = fresh; out = refl; back = refl; sent = λ never. refl }

-- such stations, of which each noted one LinkDown at most, and they over sessions
record OneLink (c d : LinkSettings) (v : Stations) : Type 0 where
  pub w : Sessions
  pub both : Both c d w
  pub unasked : IsUnasked c w
  pub alike : Alike IsFirst ⊥ w v
  pub near : w.near.begun ≡ 1
  pub far : w.far.begun ≡ 1
  pub holds : Holds c d v
  pub near_few : length v.near.reasons ≤ 1
  pub far_few : length v.far.reasons ≤ 1

one_turned : {c d : LinkSettings} {v : Stations} → OneLink c d v → OneLink d c (stations_swapped v)
one_turned h = record {
  w = swapped h.w;
  both = both_swapped h.both;
  unasked = unasked_turned h.both.joined h.unasked;
  alike = turned_alike h.alike;
  near = h.far;
  far = h.near;
  holds = (line_swapped h.holds.0, joint_swapped h.both.joined.longest h.holds.1);
  near_few = h.far_few;
  far_few = h.near_few;
}

-- timer T1 is timely where no UA is awaited
pub timely_unasked : (c d : LinkSettings) (a : Act) (w : Sessions) → (w.near.station.phase ≡ Waiting → ⊥) → session.IsTimely c d a w
timely_unasked c d T1 w still = λ waiting. absurd (still waiting)
timely_unasked c d a w still = tt

module _ (reads : ReadsSpelled) (rests : SessionLaws) where
  one_act : {c d : LinkSettings} (a : Act) {v : Stations} → OneLink c d v → AcceptsNoConnect a v.near.station → OneLink c d (one.acts c a v)
  one_act {c} {d} a {v} h none =
      let begins = act_begins_none reads rests h.both h.unasked a (subst (AcceptsNoConnect a) h.alike.near.station none) in
      let alike = happens_alike first_lasts c d (Near a) h.alike in
      let near = begins.near ∙ h.near in
      let once = once_begun alike.near near in
      record {
        w = acts c a h.w;
        both = event_both reads rests (Near a) (timely_unasked c d a h.w h.unasked.near) h.both;
        unasked = begins.unasked;
        alike = alike;
        near = near;
        far = begins.far ∙ h.far;
        holds = (_, act_joint h.both.joined reads rests.laws a once h.holds.1);
        near_few = few_acts h.both.joined reads rests.laws a once h.holds.1 (λ is. h.unasked.near (sym (ap (λ s. s.phase) h.alike.near.station) ∙ is))
            h.near_few;
        far_few = rw (each_hands_one c d (Near a) v).far h.far_few;
      }

  one_run : {c d : LinkSettings} (es : List LinkEvent) {v : Stations} → OneLink c d v → NoneConnects c d es v → OneLink c d (one.run c d es v)
  one_run [] h none = h
  one_run (Near a ∷ es) h none = one_run es (one_act a h none.0) none.1
  one_run (Far a ∷ es) h none = one_run es (one_turned (one_act a (one_turned h) none.0)) none.1

  pub stays_one_link : OneLinkUnlessConnected
  stays_one_link c d joined events none =
      let h = one_run events (record {
        w = from_set_up;
        both = begin_both reads rests joined (inr refl);
        unasked = record { near = never c 1 refl; far = never c 1 refl; out = refl; back = refl };
        alike = first_alike;
        near = refl;
        far = refl;
        holds = (machine_at_start c d, start_machine joined);
        near_few = omega arith;
        far_few = omega arith;
      }) none in
      record { once = record { near = once_begun h.alike.near h.near; far = once_begun h.alike.far h.far }; near = h.near_few; far = h.far_few }
