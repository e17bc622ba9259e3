-- One who asks at once what is due hears nothing no longer than the times say.
use Rattle.x25_station.specs.Step.{ends}
use Rattle.x25_clock.proofs.Names.{◌≡◌, ℕ, suc, ◌+◌, ◌^◌, ◌<◌, ◌≤◌, ◌⊎◌, inl, inr, List, [], ◌∷◌, Bool, true, false, not, ◌||◌, if◌then◌else◌, Option, Some}
use Rattle.x25_clock.proofs.Names.{None, refl, sym, ap, subst, ◌∙◌, arith, true≢false, le-ltb, and_parts, none-some, Phase, Waiting, Up}
use Rattle.x25_clock.proofs.Names.{LinkStation, is_up, Settings, Station, is_at_rest, Step, Outcome, Did, Refused, runs, timer_of, tells_link, is_acknowledged}
use Rattle.x25_clock.proofs.Names.{IsSettled, Due, Times, Wait, Deadlines, deadline, is_past, sooner, running, t1_after, heeded, next_of, overdue_of, unless_on}
use Rattle.x25_clock.proofs.Names.{due_of, renewed_on, after_due, Moment, Watched, watched_by, watched_from, seen_of, watched, IsSince, AreTrue, Deed}
use Rattle.x25_clock.proofs.Names.{Happens, IsAsked, later_by, event_of, outcome_of, done, all_done, IsFounded, IsNotPast, AreObeyed, tells}
use Rattle.std.proofs.{Common.{◌-◌, ◌*◌}, Math.Nat.{suc-mul}, lemmas.Nat.{mul-le}}
use Rattle.x25_clock.proofs.{ClockLemmas.{deadlines_are_true}, DeadlineLemmas.{past_first, past_second, first_past, some_deadline, Ends, begins_at, end_in_time, or_t1}}
use Rattle.x25_clock.{proofs.NoiseLemmas.{noise_rests, nothing_at}, proofs.PullLemmas.{none_heard}, proofs.WaitLemmas.{asks}, specs.Due.{asked_of, event_for}}
use Rattle.x25_clock.specs.laws.{ClockLaw.{hears}, SilenceLaw.{IsSilent, longest_silence, SilenceEnds, IsIdle, IdleIsAsked, IsQuiet}}
use Rattle.x25_clock.specs.laws.SilenceLaw.{AreUnheard, IdleIsSinceHeard, NoiseIsUnheard}
use Rattle.x25_clock.{proofs.Names.{unmoved_of}, specs.Clock.{unless_unmoved}}
use Rattle.x25_link.specs.Link.{is_idle, timer_runs, timer_step, probe_refusal}
use Rattle.x25_station.specs.{Config.{link_settings}, Step.{follows, receives, unless}, laws.SettledLaw.{SettledBy, NewIsSettled, StaysSettled, SettledAsks}}
use Rattle.x25_station.specs.laws.UnheardLaw.{MayAsk, IsUnheard, takes, TakesTries, AsksOn, UnheardAsksOn}
use Rattle.x25_link.specs.declared.error.LinkError.TheVariants as link_error
use Rattle.x25_station.specs.laws.TimerLaw as timer
use Rattle.x25_clock.specs.declared.due.Due.TheVariants as due
use Rattle.x25_clock.specs.laws.ClockLaw as moment

-- ---- what is asked, and the deadlines of T1 and of an idle link behind it

record AsksT1 (d e : Deadlines) (what : Due) : Type 0 where
  is : what ≡ due.T1
  idle : e.idle ≡ d.idle

record AsksProbe (d e : Deadlines) (what : Due) : Type 0 where
  is : what ≡ due.Probe
  t1 : e.t1 ≡ d.t1

record AsksOther (d e : Deadlines) : Type 0 where
  t1 : e.t1 ≡ d.t1
  idle : e.idle ≡ d.idle

module _ (times : Times) (now : ℕ) (d : Deadlines) (what : Due) where
  abbrev IsOneOf : Deadlines → Type 0
  IsOneOf e = AsksT1 d e what ⊎ (AsksProbe d e what ⊎ AsksOther d e)

  one_by : (t1 restart : Bool) (o : Option Wait) (u : Option ℕ) (idle : Bool)
      → (if t1 then Some due.T1 else if restart then Some due.Relink
      else unless_on o (unless_unmoved u (if idle then Some due.Probe else None))) ≡ Some what
      → IsOneOf (if t1 then record d { t1 = deadline now times.t1 } else if restart then record d { restart = deadline now times.t20 }
      else renewed_on times now o u idle d)
  one_by true restart o u idle is = inl (record { is = sym (ap or_t1 is); idle = refl })
  one_by false true o u idle is = inr (inr (record { t1 = refl; idle = refl }))
  one_by false false (Some x) u idle is = inr (inr (record { t1 = refl; idle = refl }))
  one_by false false None (Some h) idle is = inr (inr (record { t1 = refl; idle = refl }))
  one_by false false None None true is = inr (inl (record { is = sym (ap or_t1 is); t1 = refl }))
  one_by false false None None false is = absurd (none-some what is)

  one_of : due_of now d ≡ Some what → IsOneOf (after_due times now d)
  one_of is = one_by (is_past now d.t1) (is_past now d.restart) (overdue_of now d.waits) (unmoved_of now d.waits) (is_past now d.idle) is

-- ---- so many tries, each of T1

less_tries : (m n t : ℕ) → m ≤ n → m * t ≤ n * t
less_tries m n t low = mul-le m t n t low (omega arith)

one_try : (m n t : ℕ) → suc m ≤ n → m * t + t ≤ n * t
one_try m n t low = subst (λ (x : ℕ). x ≤ n * t) (suc-mul m t) (mul-le (suc m) t n t low (omega arith))

ends_less : (bound : ℕ) (o : Option ℕ) (m n : ℕ) → m ≤ n → Ends bound o n → Ends bound o m
ends_less bound None m n low ends = ends
ends_less bound (Some moment) m n low ends = omega (arith, low, ends)

add_less : (bound now t m n : ℕ) → m ≤ n → now + (t + n) ≤ bound → now + (t + m) ≤ bound
add_less bound now t m n low late = omega (arith, low, late)

take_less : (bound now t m n : ℕ) → m + t ≤ n → now + n ≤ bound → now + (t + m) ≤ bound
take_less bound now t m n low late = omega (arith, low, late)

less : (a b c n : ℕ) → a + n ≤ b → c - b ≤ c - a
less a b c n low = omega (arith, low)

fewer : (a b c : ℕ) → a + 1 ≤ b → b ≤ c → suc (c - b) ≤ c - a
fewer a b c low few = omega (arith, low, few)

false_true : {A : Type 0} → false ≡ true → A
false_true e = absurd (true≢false (sym e))

-- ---- a step

-- T1, or an idle link
abbrev IsBy : ℕ → Times → Bool → ℕ → Option ℕ → Option ℕ → Type 0
IsBy bound times true more t1 idle = Ends bound t1 more
IsBy bound times false more t1 idle = Ends bound idle (times.t1 + more)

abbrev InTime : ℕ → Times → Bool → ℕ → ℕ → Type 0
InTime bound times true more now = now + more ≤ bound
InTime bound times false more now = now + (times.t1 + more) ≤ bound

in_time : (bound : ℕ) (times : Times) (r : Bool) (more now : ℕ) (d : Deadlines) → IsNotPast now (next_of d) → IsBy bound times r more d.t1 d.idle
    → InTime bound times r more now
in_time bound times true more now d past by = end_in_time bound now d.t1 more by
    (past_first now d.t1 d.idle (past_first now (sooner d.t1 d.idle) d.restart (first_past now d.waits (sooner (sooner d.t1 d.idle) d.restart) past)))
in_time bound times false more now d past by = end_in_time bound now d.idle (times.t1 + more) by
    (past_second now d.t1 d.idle (past_first now (sooner d.t1 d.idle) d.restart (first_past now d.waits (sooner (sooner d.t1 d.idle) d.restart) past)))

now_in_time : (bound : ℕ) (times : Times) (r : Bool) (more now : ℕ) → InTime bound times r more now → now ≤ bound
now_in_time bound times true more now late = omega (arith, late)
now_in_time bound times false more now late = omega (arith, late)

idle_stays : (bound more : ℕ) (rest come : Bool) (idle new : Option ℕ) → rest ≡ true → come ≡ false → Ends bound idle more
    → Ends bound (running rest come idle new) more
idle_stays bound more true false None new is quiet ends = absurd ends
idle_stays bound more true false (Some moment) new is quiet ends = ends
idle_stays bound more true true idle new is quiet ends = absurd (true≢false quiet)
idle_stays bound more false come idle new is quiet ends = false_true is

module _ (times : Times) (bound : ℕ) (set : 0 < times.t1) (small : bound < 2 ^ 64) (now old new : ℕ) (t1 idle : Option ℕ) (rest come fired : Bool) where
  abbrev Behind : Bool → Bool → Bool → Bool → Type 0
  Behind r after told acked =
      IsBy bound times after new (t1_after times now (timer_of after (not r || (fired || (told || acked)))) t1) (running rest come idle (deadline now times.t3))

  cases : (r after f : Bool) → f ≡ fired → (r ≡ true → after ≡ true) → (after || rest) ≡ true → InTime bound times r old now
      → (r ≡ true → fired ≡ false → Ends bound t1 old) → (r ≡ false → after ≡ false → Ends bound idle (times.t1 + old))
      → (r ≡ false → come ≡ false) → new ≤ old → (fired ≡ true → new + times.t1 ≤ old)
      → IsBy bound times after new (t1_after times now (timer_of after (not r || (f || (false || false)))) t1)
      (running rest come idle (deadline now times.t3))
  cases false true f is goes on late by_t1 by_idle quiet low one = begins_at bound small now times.t1 new set (add_less bound now times.t1 new old low late)
  cases false false f is goes on late by_t1 by_idle quiet low one = idle_stays bound (times.t1 + new) rest come idle (deadline now times.t3) on (quiet refl)
      (ends_less bound idle (times.t1 + new) (times.t1 + old) (omega (arith, low)) (by_idle refl refl))
  cases true false f is goes on late by_t1 by_idle quiet low one = false_true (goes refl)
  cases true true true is goes on late by_t1 by_idle quiet low one =
      begins_at bound small now times.t1 new set (take_less bound now times.t1 new old (one (sym is)) late)
  cases true true false is goes on late by_t1 by_idle quiet low one = ends_less bound t1 new old low (by_t1 refl (sym is))

  behind : (r after told acked : Bool) → told ≡ false → acked ≡ false → (r ≡ true → after ≡ true) → (after || rest) ≡ true → InTime bound times r old now
      → (r ≡ true → fired ≡ false → Ends bound t1 old) → (r ≡ false → after ≡ false → Ends bound idle (times.t1 + old))
      → (r ≡ false → come ≡ false) → new ≤ old → (fired ≡ true → new + times.t1 ≤ old) → Behind r after told acked
  behind r after told acked no_note no_ack goes on late by_t1 by_idle quiet low one =
      subst (λ (b : Bool). Behind r after b acked) (sym no_note)
      (subst (λ (b : Bool). Behind r after false b) (sym no_ack) (cases r after fired refl goes on late by_t1 by_idle quiet low one))

-- behind a refusal all is as it was
refused_behind : (bound : ℕ) (times : Times) (now more : ℕ) (r rest come : Bool) (t1 idle : Option ℕ) → (r || rest) ≡ true → (r ≡ false → come ≡ false)
    → IsBy bound times r more t1 idle
    → IsBy bound times r more (t1_after times now (timer_of r false) t1) (running rest come idle (deadline now times.t3))
refused_behind bound times now more true rest come t1 idle on quiet by = by
refused_behind bound times now more false rest come t1 idle on quiet by =
    idle_stays bound (times.t1 + more) rest come idle (deadline now times.t3) on (quiet refl) by

-- ---- events

-- where T1 doesn't run the link is up
waits_runs : (s : LinkStation) → s.phase ≡ Waiting → timer_runs s.phase s ≡ true
waits_runs s is = ap (λ (p : Phase). timer_runs p s) is

quiet_event : (s : Station) (event : timer.StationEvent) (step : Step) → IsUnheard s event → runs s ≡ false → hears event (Did step) ≡ false
quiet_event s (timer.Comes octets) step is off = absurd (true≢false (sym (waits_runs s.link is) ∙ off))
quiet_event s event step is off = none_heard step.out step.entries

-- what is due is no octets that come
due_unheard : (s : Station) (d : Due) → IsUnheard s (event_for d)
due_unheard s due.T1 = tt
due_unheard s due.Probe = tt
due_unheard s (due.Reset h) = tt
due_unheard s (due.ResetUnacknowledged h) = tt
due_unheard s (due.Clear h) = tt
due_unheard s (due.Restart h) = tt
due_unheard s due.Relink = tt

one_firing : (event : timer.StationEvent) → timer.is_firing event ≡ true → takes event ≡ 1
one_firing timer.Fires is = refl
one_firing event is = false_true is

same_acked : (before after : LinkStation) → after.outgoing.acked ≡ before.outgoing.acked → is_acknowledged before after ≡ false
same_acked before after same = le-ltb _ _ (omega (arith, same))

-- T1 runs, or the link is at rest
record IsOn (p : Phase) (s : Station) : Type 0 where
  phase : s.link.phase ≡ p
  on : (runs s || is_at_rest s) ≡ true

-- the laws of the station that are used
pub record Silent : Type 0 where
  pub asks : UnheardAsksOn
  pub new : NewIsSettled
  pub stays : StaysSettled
  pub rests : SettledAsks

is_on : Silent → (c : Settings) (p : Phase) (s : Station) → MayAsk p → 1 ≤ c.window → IsSettled c s → s.link.phase ≡ p → IsOn p s
is_on laws c Waiting s may least settled is = record { phase = is; on = ap (λ (b : Bool). b || is_at_rest s) (waits_runs s.link is) }
is_on laws c Up s may least settled is = record { phase = is; on = laws.rests c s least settled (ap is_up is) }
is_on laws c p s may least settled is = absurd may

settled_after : (c : Settings) (s : Station) (o : Outcome) → IsSettled c s → SettledBy c o → IsSettled c (timer.after s o)
settled_after c s (Did step) before settled = settled
settled_after c s (Refused e) before settled = before

moments_settled : Silent → (c : Settings) (times : Times) → c.window ≤ 7 → (moments : List Moment) (w : Watched) → IsSettled c w.station
    → IsSettled c (watched_from c times moments w).station
moments_settled laws c times most [] w settled = settled
moments_settled laws c times most (moment.Happens later event ∷ moments) w settled =
    moments_settled laws c times most moments (watched_by c times (moment.Happens later event) w)
    (settled_after c w.station (timer.outcome c w.station event) settled (laws.stays c w.station event most settled))
moments_settled laws c times most (moment.IsDue later ∷ moments) w settled =
    moments_settled laws c times most moments (watched_by c times (moment.IsDue later) w) settled

deed_settled : Silent → (c : Settings) (times : Times) → c.window ≤ 7 → (deed : Deed) (w : Watched) → IsSettled c w.station
    → IsSettled c (done c times deed w).station
deed_settled laws c times most (Happens later event) w settled =
    settled_after c w.station (timer.outcome c w.station event) settled (laws.stays c w.station event most settled)
deed_settled laws c times most (IsAsked later what) w settled =
    (let event : timer.StationEvent = asks c w.station what in
    settled_after c w.station (timer.outcome c w.station event) settled (laws.stays c w.station event most settled))

module _ (c : Settings) (times : Times) (phase : Phase) (bound : ℕ) (may : MayAsk phase) (set : 0 < times.t1) (small : bound < 2 ^ 64) where
  abbrev left : Station → ℕ
  left s = (c.retries - s.link.tries) * times.t1

  abbrev Holds : Watched → Type 0
  Holds w = IsBy bound times (runs w.station) (left w.station) w.deadlines.t1 w.deadlines.idle

  -- a step, whatever what is asked renewed
  did_by : (now : ℕ) (s : Station) (d : Deadlines) (event : timer.StationEvent) (step : Step) → TakesTries c s step.near (takes event) → IsUnheard s event
      → tells_link step.entries ≡ false → (runs step.near || is_at_rest step.near) ≡ true
      → InTime bound times (runs s) (left s) now → (runs s ≡ true → timer.is_firing event ≡ false → Ends bound d.t1 (left s))
      → (runs s ≡ false → runs step.near ≡ false → Ends bound d.idle (times.t1 + left s))
      → (let e : Deadlines = heeded times now (seen_of c s event (Did step)) d in IsBy bound times (runs step.near) (left step.near) e.t1 e.idle)
  did_by now s d event step took unheard quiet on late by_t1 by_idle =
      let n : ℕ = step.near.link.tries in
      let fewer_tries : c.retries - n ≤ c.retries - s.link.tries = less s.link.tries n c.retries (takes event) took.tries in
      let one : timer.is_firing event ≡ true → left step.near + times.t1 ≤ left s =
      λ is. (let count : takes event ≡ 1 = one_firing event is in
      let more : s.link.tries + 1 ≤ n = subst (λ (k : ℕ). s.link.tries + k ≤ n) count took.tries in
      one_try (c.retries - n) (c.retries - s.link.tries) times.t1 (fewer s.link.tries n c.retries more (took.few count))) in
      behind times bound set small now (left s) (left step.near) d.t1 d.idle (is_at_rest step.near) (hears event (Did step)) (timer.is_firing event) (runs s)
      (runs step.near) (tells_link step.entries) (is_acknowledged s.link step.near.link) quiet
      (same_acked s.link step.near.link took.acked) took.goes_on on late by_t1 by_idle (quiet_event s event step unheard)
      (less_tries (c.retries - n) (c.retries - s.link.tries) times.t1 fewer_tries) one

  -- an event, by its outcome
  event_by : (now : ℕ) (s : Station) (d : Deadlines) (event : timer.StationEvent) (o : Outcome) → AsksOn c s (takes event) o → IsOn phase s
      → IsOn phase (timer.after s o) → IsUnheard s event → tells o ≡ false → InTime bound times (runs s) (left s) now
      → IsBy bound times (runs s) (left s) d.t1 d.idle
      → (let e : Deadlines = heeded times now (seen_of c s event o) d in IsBy bound times (runs (timer.after s o)) (left (timer.after s o)) e.t1 e.idle)
  event_by now s d event (Did step) took before after unheard quiet late by =
      did_by now s d event step (took quiet (after.phase ∙ sym before.phase)) unheard quiet after.on late
      (λ is fired. subst (λ (r : Bool). IsBy bound times r (left s) d.t1 d.idle) is by)
      (λ is off. subst (λ (r : Bool). IsBy bound times r (left s) d.t1 d.idle) is by)
  event_by now s d event (Refused e) took before after unheard quiet late by =
      refused_behind bound times now (left s) (runs s) (is_at_rest s) false d.t1 d.idle before.on (λ off. refl) by

  -- ---- what is due is asked

  module _ (silent : UnheardAsksOn) (w : Watched) (later : ℕ) (before : IsOn phase w.station)
      (late : InTime bound times (runs w.station) (left w.station) (w.now + later)) (by : Holds w) where
    abbrev s : Station
    s = w.station

    abbrev e : Deadlines
    e = after_due times (w.now + later) w.deadlines

    abbrev Then : Due → Outcome → Type 0
    Then what o = (let x : Deadlines = heeded times (w.now + later) (seen_of c s (asks c s what) o) e in
        IsBy bound times (runs (timer.after s o)) (left (timer.after s o)) x.t1 x.idle)

    -- T1 fires where it runs
    fires_by : (b : Bool) → runs s ≡ b → e.idle ≡ w.deadlines.idle → (step : Step)
        → (let o : Outcome = unless (if b then None else Some link_error.NotRunning) step in AsksOn c s 1 o → IsOn phase (timer.after s o) → tells o ≡ false
        → Then due.T1 o)
    fires_by true is same step took after quiet =
        did_by (w.now + later) s e timer.Fires step (took quiet (after.phase ∙ sym before.phase)) tt quiet after.on late
        (λ on fired. absurd (true≢false fired)) (λ off no. absurd (true≢false (sym is ∙ off)))
    fires_by false is same step took after quiet =
        let was : Ends bound w.deadlines.idle (times.t1 + left s) = subst (λ (r : Bool). IsBy bound times r (left s) w.deadlines.t1 w.deadlines.idle) is by in
        refused_behind bound times (w.now + later) (left s) (runs s) (is_at_rest s) false e.t1 e.idle before.on (λ off. refl)
        (subst (λ (r : Bool). IsBy bound times r (left s) e.t1 e.idle) (sym is) (subst (λ (x : Option ℕ). Ends bound x (times.t1 + left s)) (sym same) was))

    -- a link that is up is polled, and T1 runs then; while UA is awaited it runs anyway
    polls_by : (p : Phase) → s.link.phase ≡ p → MayAsk p → e.t1 ≡ w.deadlines.t1 → (step : Step)
        → (let o : Outcome = unless (probe_refusal p) step in AsksOn c s 1 o → IsOn phase (timer.after s o) → tells o ≡ false → Then due.Probe o)
    polls_by Waiting is may same step took after quiet =
        let on : runs s ≡ true = waits_runs s.link is in
        let was : Ends bound w.deadlines.t1 (left s) = subst (λ (r : Bool). IsBy bound times r (left s) w.deadlines.t1 w.deadlines.idle) on by in
        refused_behind bound times (w.now + later) (left s) (runs s) (is_at_rest s) false e.t1 e.idle before.on (λ off. refl)
        (subst (λ (r : Bool). IsBy bound times r (left s) e.t1 e.idle) (sym on) (subst (λ (x : Option ℕ). Ends bound x (left s)) (sym same) was))
    polls_by Up is may same step took after quiet =
        let behind : TakesTries c s step.near 1 = took quiet (after.phase ∙ sym before.phase) in
        did_by (w.now + later) s e (asks c s due.Probe) step behind tt quiet after.on late
        (λ on fired. subst (λ (x : Option ℕ). Ends bound x (left s)) (sym same)
        (subst (λ (r : Bool). IsBy bound times r (left s) w.deadlines.t1 w.deadlines.idle) on by))
        (λ off no. absurd (true≢false (sym (behind.asked refl) ∙ no)))
    polls_by p is may same step took after quiet = absurd may

    asked_by : (what : Due) → (let o : Outcome = timer.outcome c s (asks c s what) in IsOn phase (timer.after s o) → tells o ≡ false
        → due_of (w.now + later) w.deadlines ≡ Some what → Then what o)
    asked_by what after quiet is = on (one_of times (w.now + later) w.deadlines what is)
      where
        t1_first : (x : Due) → x ≡ due.T1 → e.idle ≡ w.deadlines.idle
            → (let o : Outcome = timer.outcome c s (asks c s x) in IsOn phase (timer.after s o) → tells o ≡ false → Then x o)
        t1_first x is same =
            subst (λ (y : Due). let o : Outcome = timer.outcome c s (asks c s y) in IsOn phase (timer.after s o) → tells o ≡ false → Then y o) (sym is)
            (fires_by (runs s) refl same (ends c s (timer_step (link_settings c) s.link))
            (silent c s timer.Fires (subst MayAsk (sym before.phase) may) tt))

        polled : (x : Due) → x ≡ due.Probe → e.t1 ≡ w.deadlines.t1
            → (let o : Outcome = timer.outcome c s (asks c s x) in IsOn phase (timer.after s o) → tells o ≡ false → Then x o)
        polled x is same =
            subst (λ (y : Due). let o : Outcome = timer.outcome c s (asks c s y) in IsOn phase (timer.after s o) → tells o ≡ false → Then y o) (sym is)
            (polls_by s.link.phase refl (subst MayAsk (sym before.phase) may) same (follows c s (timer_step (link_settings c) s.link))
            (silent c s (asks c s due.Probe) (subst MayAsk (sym before.phase) may) tt))

        on : (AsksT1 w.deadlines e what ⊎ (AsksProbe w.deadlines e what ⊎ AsksOther w.deadlines e))
            → (let o : Outcome = timer.outcome c s (asks c s what) in Then what o)
        on (inl asked) = t1_first what asked.is asked.idle after quiet
        on (inr (inl asked)) = polled what asked.is asked.t1 after quiet
        on (inr (inr asked)) =
            let event : timer.StationEvent = asks c s what in
            let o : Outcome = timer.outcome c s event in
            let unheard : IsUnheard s event = due_unheard s (asked_of c s what) in
            event_by (w.now + later) s e event o (silent c s event (subst MayAsk (sym before.phase) may) unheard) before after unheard quiet late
            (subst (λ (x : Option ℕ). IsBy bound times (runs s) (left s) x e.idle) (sym asked.t1)
            (subst (λ (x : Option ℕ). IsBy bound times (runs s) (left s) w.deadlines.t1 x) (sym asked.idle) by))

  -- noise comes, and all is as it was
  noise_by : (now : ℕ) (s : Station) (d : Deadlines) (octets : List ℕ) → IsOn phase s → IsBy bound times (runs s) (left s) d.t1 d.idle
      → (let e : Deadlines = heeded times now (seen_of c s (timer.Comes octets) (Did (nothing_at s))) d in IsBy bound times (runs s) (left s) e.t1 e.idle)
  noise_by now s d octets before by =
      subst (λ (b : Bool). IsBy bound times (runs s) (left s) (t1_after times now (timer_of (runs s) (not (runs s) || (false || (false || b)))) d.t1)
      (running (is_at_rest s) false d.idle (deadline now times.t3))) (sym (same_acked s.link s.link refl)) (still (runs s) refl)
    where
      still : (r : Bool) → runs s ≡ r → IsBy bound times (runs s) (left s) (t1_after times now (timer_of r (not r || (false || (false || false)))) d.t1)
          (running (is_at_rest s) false d.idle (deadline now times.t3))
      still true is = subst (λ (r : Bool). IsBy bound times (runs s) (left s) (t1_after times now (timer_of r false) d.t1)
          (running (is_at_rest s) false d.idle (deadline now times.t3))) is
          (refused_behind bound times now (left s) (runs s) (is_at_rest s) false d.t1 d.idle before.on (λ off. refl) by)
      still false is = subst (λ (r : Bool). IsBy bound times (runs s) (left s) (t1_after times now (timer_of r false) d.t1)
          (running (is_at_rest s) false d.idle (deadline now times.t3))) is
          (refused_behind bound times now (left s) (runs s) (is_at_rest s) false d.t1 d.idle before.on (λ off. refl) by)

  came_by : UnheardAsksOn → (w : Watched) (later : ℕ) (octets : List ℕ) → IsSettled c w.station → IsOn phase w.station
      → (let o : Outcome = Did (receives c w.station octets) in IsOn phase (timer.after w.station o) → IsQuiet c w.station (timer.Comes octets) → tells o ≡ false
      → InTime bound times (runs w.station) (left w.station) (w.now + later) → Holds w → Holds (done c times (Happens later (timer.Comes octets)) w))
  came_by silent w later octets settled before after (inl unheard) quiet late by =
      event_by (w.now + later) w.station w.deadlines (timer.Comes octets) (Did (receives c w.station octets))
      (silent c w.station (timer.Comes octets) (subst MayAsk (sym before.phase) may) unheard) before after unheard quiet late by
  came_by silent w later octets settled before after (inr noise) quiet late by =
      subst (λ (step : Step). let e : Deadlines = heeded times (w.now + later) (seen_of c w.station (timer.Comes octets) (Did step)) w.deadlines in
      IsBy bound times (runs step.near) (left step.near) e.t1 e.idle) (sym (noise_rests c w.station octets settled noise quiet))
      (noise_by (w.now + later) w.station w.deadlines octets before by)

  deed_by : UnheardAsksOn → (w : Watched) (deed : Deed) → IsFounded deed w → IsSettled c w.station → IsOn phase w.station → IsOn phase (done c times deed w).station
      → IsQuiet c w.station (event_of c deed w.station) → tells (outcome_of c deed w) ≡ false
      → InTime bound times (runs w.station) (left w.station) (w.now + later_by deed) → Holds w → Holds (done c times deed w)
  deed_by silent w (Happens later (timer.Comes octets)) founded settled before after unheard quiet late by =
      came_by silent w later octets settled before after unheard quiet late by
  deed_by silent w (Happens later (timer.Asks command)) founded settled before after unheard quiet late by =
      event_by (w.now + later) w.station w.deadlines (timer.Asks command) (timer.outcome c w.station (timer.Asks command))
      (silent c w.station (timer.Asks command) (subst MayAsk (sym before.phase) may) tt) before after tt quiet late by
  deed_by silent w (Happens later timer.Fires) founded settled before after unheard quiet late by =
      event_by (w.now + later) w.station w.deadlines timer.Fires (timer.outcome c w.station timer.Fires)
      (silent c w.station timer.Fires (subst MayAsk (sym before.phase) may) tt) before after tt quiet late by
  deed_by silent w (IsAsked later what) founded settled before after unheard quiet late by = asked_by silent w later before late by what after quiet founded

  in_phase : (deeds : List Deed) (w : Watched) → IsSilent c times phase deeds w → w.station.link.phase ≡ phase
  in_phase [] w all = all
  in_phase (deed ∷ deeds) w all = all.0

  all_by : Silent → 1 ≤ c.window → c.window ≤ 7 → (deeds : List Deed) (w : Watched) → IsSettled c w.station → AreObeyed c times deeds w
      → IsSilent c times phase deeds w → w.now ≤ bound → Holds w → (all_done c times deeds w).now ≤ bound
  all_by laws least most [] w settled obeyed all low by = low
  all_by laws least most (deed ∷ deeds) w settled obeyed all low by =
      let late : InTime bound times (runs w.station) (left w.station) (w.now + later_by deed) =
      in_time bound times (runs w.station) (left w.station) (w.now + later_by deed) w.deadlines obeyed.1 by in
      let v : Watched = done c times deed w in
      let then_settled : IsSettled c v.station = deed_settled laws c times most deed w settled in
      all_by laws least most deeds v then_settled obeyed.2 all.3 (now_in_time bound times (runs w.station) (left w.station) (w.now + later_by deed) late)
      (deed_by laws.asks w deed obeyed.0 settled (is_on laws c phase w.station may least settled all.0)
      (is_on laws c phase v.station may least then_settled (in_phase deeds v all.3)) all.1 all.2 late by)

-- ---- where it begins

ends_by : (bound now time more : ℕ) (until : Option ℕ) → bound < 2 ^ 64 → 0 < time → now + (time + more) ≤ bound → IsSince now time until
    → Ends bound until more
ends_by bound now time more until small positive low since =
    let past : since.since ≤ now = since.past in
    subst (λ (o : Option ℕ). Ends bound o more) (sym since.is) (begins_at bound small since.since time more positive (omega (arith, low, past)))

first_by : (c : Settings) (times : Times) (bound : ℕ) (w : Watched) (r : Bool) → runs w.station ≡ r → bound ≡ w.now + longest_silence times c.retries r
    → 0 < times.t1 → 0 < times.t3 → bound < 2 ^ 64 → (runs w.station || is_at_rest w.station) ≡ true → AreTrue c times w
    → IsBy bound times r ((c.retries - w.station.link.tries) * times.t1) w.deadlines.t1 w.deadlines.idle
first_by c times bound w true is same set polled small on true_now =
    let few : (c.retries - w.station.link.tries) * times.t1 ≤ c.retries * times.t1 =
    less_tries (c.retries - w.station.link.tries) c.retries times.t1 (omega arith) in
    ends_by bound w.now times.t1 ((c.retries - w.station.link.tries) * times.t1) w.deadlines.t1 small set
    (add_less bound w.now times.t1 ((c.retries - w.station.link.tries) * times.t1) (c.retries * times.t1) few (omega (arith, same))) (true_now.t1.on is)
first_by c times bound w false is same set polled small on true_now =
    let few : (c.retries - w.station.link.tries) * times.t1 ≤ c.retries * times.t1 =
    less_tries (c.retries - w.station.link.tries) c.retries times.t1 (omega arith) in
    let rest : is_at_rest w.station ≡ true = sym (ap (λ (b : Bool). b || is_at_rest w.station) is) ∙ on in
    ends_by bound w.now times.t3 (times.t1 + (c.retries - w.station.link.tries) * times.t1) w.deadlines.idle small polled
    (add_less bound w.now times.t3 (times.t1 + (c.retries - w.station.link.tries) * times.t1) (times.t1 + c.retries * times.t1) (omega (arith, few))
    (omega (arith, same))) (true_now.idle.on rest)

pub silence_ends : Silent → SilenceEnds
silence_ends laws c times phase moments deeds may least most set polled small obeyed all =
    let w : Watched = watched c times moments in
    let bound : ℕ = w.now + longest_silence times c.retries (runs w.station) in
    let settled : IsSettled c w.station = moments_settled laws c times most moments _ (laws.new c) in
    all_by c times phase bound may set small laws least most deeds w settled obeyed all (omega arith)
    (first_by c times bound w (runs w.station) refl refl set polled small
    (is_on laws c phase w.station may least settled (in_phase c times phase bound may set small deeds w all)).on (deadlines_are_true c times moments))

-- ---- an idle link

rest_is_up : (s : Station) → is_at_rest s ≡ true → is_up s.link.phase ≡ true
rest_is_up s is = (and_parts (is_up s.link.phase) _ (and_parts (is_idle s.link) (not (runs s)) is).0).0

up_is : (p : Phase) → is_up p ≡ true → p ≡ Up
up_is Up is = refl
up_is p is = false_true is

rest_is_off : (s : Station) → is_at_rest s ≡ true → runs s ≡ true → ⊥
rest_is_off s is on = true≢false (sym (and_parts (is_idle s.link) (not (runs s)) is).1 ∙ ap not on)

module _ (c : Settings) (times : Times) (bound : ℕ) where
  idle_by : (d : Deadlines) (now : ℕ) (s : Station) (event : timer.StationEvent) (o : Outcome) → hears event o ≡ false → is_at_rest (timer.after s o) ≡ true
      → Ends bound d.idle 0 → Ends bound (heeded times now (seen_of c s event o) d).idle 0
  idle_by d now s event (Did step) quiet rest by = idle_stays bound 0 (is_at_rest step.near) (hears event (Did step)) d.idle (deadline now times.t3) rest quiet by
  idle_by d now s event (Refused e) quiet rest by = idle_stays bound 0 (is_at_rest s) false d.idle (deadline now times.t3) rest refl by

  -- a poll is accepted, and T1 runs behind it
  polled : UnheardAsksOn → (s : Station) → is_at_rest s ≡ true
      → (let o : Outcome = timer.outcome c s (asks c s due.Probe) in tells o ≡ false → is_at_rest (timer.after s o) ≡ true → ⊥)
  polled silent s rest = by s.link.phase (up_is s.link.phase (rest_is_up s rest))
      (silent c s (asks c s due.Probe) (subst MayAsk (sym (up_is s.link.phase (rest_is_up s rest))) tt) tt)
    where
      step : Step
      step = follows c s (timer_step (link_settings c) s.link)

      by : (p : Phase) → p ≡ Up → (let o : Outcome = unless (probe_refusal p) step in AsksOn c s 1 o → tells o ≡ false → is_at_rest (timer.after s o) ≡ true
          → ⊥)
      by p is = subst (λ (x : Phase). let o : Outcome = unless (probe_refusal x) step in AsksOn c s 1 o → tells o ≡ false → is_at_rest (timer.after s o) ≡ true
          → ⊥) (sym is)
          (λ took quiet after.
          let same : step.near.link.phase ≡ s.link.phase = up_is step.near.link.phase (rest_is_up step.near after)
          ∙ sym (up_is s.link.phase (rest_is_up s rest)) in
          rest_is_off step.near after ((took quiet same).asked refl))

  idle_asked : UnheardAsksOn → (w : Watched) (later : ℕ) (what : Due) → due_of (w.now + later) w.deadlines ≡ Some what → is_at_rest w.station ≡ true
      → (let o : Outcome = timer.outcome c w.station (asks c w.station what) in tells o ≡ false → is_at_rest (timer.after w.station o) ≡ true
      → Ends bound w.deadlines.idle 0 → Ends bound (after_due times (w.now + later) w.deadlines).idle 0)
  idle_asked silent w later what is rest quiet after by = on (one_of times (w.now + later) w.deadlines what is)
    where
      e : Deadlines
      e = after_due times (w.now + later) w.deadlines

      on : (AsksT1 w.deadlines e what ⊎ (AsksProbe w.deadlines e what ⊎ AsksOther w.deadlines e)) → Ends bound e.idle 0
      on (inl asked) = subst (λ (x : Option ℕ). Ends bound x 0) (sym asked.idle) by
      on (inr (inl asked)) =
          absurd (subst (λ (x : Due). let o : Outcome = timer.outcome c w.station (asks c w.station x) in tells o ≡ false → is_at_rest (timer.after w.station o) ≡ true
          → ⊥) (sym asked.is) (polled silent w.station rest) quiet after)
      on (inr (inr asked)) = subst (λ (x : Option ℕ). Ends bound x 0) (sym asked.idle) by

  idle_deed : UnheardAsksOn → (w : Watched) (deed : Deed) → IsFounded deed w → is_at_rest w.station ≡ true
      → hears (event_of c deed w.station) (outcome_of c deed w) ≡ false → tells (outcome_of c deed w) ≡ false → is_at_rest (done c times deed w).station ≡ true
      → Ends bound w.deadlines.idle 0 → Ends bound (done c times deed w).deadlines.idle 0
  idle_deed silent w (Happens later event) founded rest none quiet after by =
      idle_by w.deadlines (w.now + later) w.station event (timer.outcome c w.station event) none after by
  idle_deed silent w (IsAsked later what) founded rest none quiet after by =
      (let event : timer.StationEvent = asks c w.station what in
      idle_by (after_due times (w.now + later) w.deadlines) (w.now + later) w.station event (timer.outcome c w.station event) none after
      (idle_asked silent w later what founded rest quiet after by))

  rests : (deeds : List Deed) (w : Watched) → IsIdle c times deeds w → is_at_rest w.station ≡ true
  rests [] w all = all
  rests (deed ∷ deeds) w all = all.0

  all_idle : UnheardAsksOn → (deeds : List Deed) (w : Watched) → AreObeyed c times deeds w → IsIdle c times deeds w → w.now ≤ bound
      → Ends bound w.deadlines.idle 0 → (all_done c times deeds w).now ≤ bound
  all_idle silent [] w obeyed all low by = low
  all_idle silent (deed ∷ deeds) w obeyed all low by =
      let now : ℕ = w.now + later_by deed in
      let d : Deadlines = w.deadlines in
      let late : now + 0 ≤ bound = end_in_time bound now d.idle 0 by
      (past_second now d.t1 d.idle (past_first now (sooner d.t1 d.idle) d.restart
      (first_past now d.waits (sooner (sooner d.t1 d.idle) d.restart) obeyed.1))) in
      let v : Watched = done c times deed w in
      all_idle silent deeds v obeyed.2 all.3 (omega (arith, late)) (idle_deed silent w deed obeyed.0 all.0 all.1 all.2 (rests deeds v all.3) by)

pub idle_is_asked : UnheardAsksOn → IdleIsAsked
idle_is_asked silent c times moments deeds polled small obeyed all =
    let w : Watched = watched c times moments in
    let bound : ℕ = w.now + times.t3 in
    all_idle c times bound silent deeds w obeyed all (omega arith)
    (ends_by bound w.now times.t3 0 w.deadlines.idle small polled (omega arith)
    ((deadlines_are_true c times moments).idle.on (rests c times bound deeds w all)))

-- ---- since when it is watched

module _ (c : Settings) (times : Times) where
  rests_first : (moments : List Moment) (w : Watched) → AreUnheard c times moments w → is_at_rest w.station ≡ true
  rests_first [] w all = all
  rests_first (moment.Happens later event ∷ moments) w all = all.0
  rests_first (moment.IsDue later ∷ moments) w all = absurd all

  -- an event at which something is heard, and one at which nothing is
  heard_idle : (now : ℕ) (s : Station) (d : Deadlines) (event : timer.StationEvent) (o : Outcome) → hears event o ≡ true → is_at_rest (timer.after s o) ≡ true
      → (heeded times now (seen_of c s event o) d).idle ≡ deadline now times.t3
  heard_idle now s d event (Did step) heard rest =
      ap (λ (b : Bool). running b (hears event (Did step)) d.idle (deadline now times.t3)) rest
      ∙ ap (λ (b : Bool). running true b d.idle (deadline now times.t3)) heard
  heard_idle now s d event (Refused e) heard rest = absurd (true≢false (sym heard))

  unheard_idle : (now at : ℕ) (s : Station) (d : Deadlines) (event : timer.StationEvent) (o : Outcome) → hears event o ≡ false
      → is_at_rest (timer.after s o) ≡ true → d.idle ≡ Some at → (heeded times now (seen_of c s event o) d).idle ≡ Some at
  unheard_idle now at s d event (Did step) unheard rest is =
      ap (λ (b : Bool). running b (hears event (Did step)) d.idle (deadline now times.t3)) rest
      ∙ ap (λ (b : Bool). running true b d.idle (deadline now times.t3)) unheard
      ∙ ap (λ (o : Option ℕ). running true false o (deadline now times.t3)) is
  unheard_idle now at s d event (Refused e) unheard rest is =
      ap (λ (b : Bool). running b false d.idle (deadline now times.t3)) rest
      ∙ ap (λ (o : Option ℕ). running true false o (deadline now times.t3)) is

  stands_on : (at : ℕ) (moments : List Moment) (w : Watched) → AreUnheard c times moments w → w.deadlines.idle ≡ Some at
      → (watched_from c times moments w).deadlines.idle ≡ Some at
  stands_on at [] w all is = is
  stands_on at (moment.Happens later event ∷ moments) w all is =
      let v : Watched = watched_by c times (moment.Happens later event) w in
      stands_on at moments v all.2
      (unheard_idle (w.now + later) at w.station w.deadlines event (timer.outcome c w.station event) all.1 (rests_first moments v all.2) is)
  stands_on at (moment.IsDue later ∷ moments) w all is = absurd all

pub idle_is_since_heard : IdleIsSinceHeard
idle_is_since_heard c times event later moments before small some heard all =
    let w : Watched = watched_by c times (moment.Happens later event) before in
    stands_on c times (w.now + times.t3) moments w all
    (heard_idle c times w.now before.station before.deadlines event (timer.outcome c before.station event) heard (rests_first c times moments w all)
    ∙ some_deadline w.now times.t3 some small)

pub noise_is_unheard : Silent → NoiseIsUnheard
noise_is_unheard laws c times moments octets most noise quiet =
    let s : Station = (watched c times moments).station in
    let rests : receives c s octets ≡ nothing_at s = noise_rests c s octets (moments_settled laws c times most moments _ (laws.new c)) noise quiet in
    (ap (λ (step : Step). step.near) rests, ap (λ (step : Step). hears (timer.Comes octets) (Did step)) rests)
