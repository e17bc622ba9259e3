-- What is pulled behind a step, and heeded with it, leaves the deadlines as where each is heeded.
use Rattle.x25_clock.proofs.Names.{◌≡◌, ℕ, ◌+◌, ◌==◌, ◌⊎◌, inl, inr, List, [], ◌∷◌, ◌++◌, map, Bool, true, false, not, ◌||◌, if◌then◌else◌, Option, Some, None}
use Rattle.x25_clock.proofs.Names.{refl, sym, ap, subst, ◌∙◌, arith, true≢false, eq-eqb, le-ltb, Awaits, LinkStation, awaited_at, unacknowledged_at, Settings}
use Rattle.x25_clock.proofs.Names.{layer_settings, Station, is_at_rest, Step, Outcome, Did, Refused, runs, tells_link, is_acknowledged, timer_of, IsSettled}
use Rattle.x25_clock.proofs.Names.{Times, Wait, Deadlines, deadline, time_of, number_of, t1_after, running, wait_after, heeded, Watched, seen_of, heeds, comes}
use Rattle.x25_clock.proofs.Names.{Happens, IsAsked, event_of, found_by, done, is_any, is_some, is_same, AreAwaited, AreTrue, ◌≤◌}
use Rattle.std.proofs.Common.{append-nil, ◌-◌}
use Rattle.x25_clock.{proofs.NoiseLemmas.{pulled_rests}, proofs.ClockLemmas.{due_true, true_later}, specs.Clock.{Seen, is_heard}}
use Rattle.x25_clock.specs.laws.PullLaw.{seen_pulled, pull, PullIsHeeded}
use Rattle.x25_frame.specs.Frame.{PlainFrame}
use Rattle.x25_layer.specs.{Calls.{PullsAll}, Layer.{Layer}}
use Rattle.x25_station.specs.{Command.{Requests}, Entry.{StationEntry}, Pulling.{pulled, pulled_of}, Step.{requests}, Timer.{pulled_timer}}
use Rattle.x25_station.specs.{declared.timer.Timer.{Timer}, laws.SettledLaw.{GoesOn, PullsGoOn}, laws.PullLaw.{HasPulled, PulledBy, StepsPull}}
use Rattle.x25_station.specs.laws.TimerLaw as timer

-- ---- one deadline, heeded twice at one moment

t1_twice : (times : Times) (now : ℕ) (first : Timer) (ran behind : Bool) (old : Option ℕ)
    → t1_after times now (timer_of behind (not ran || false)) (t1_after times now first old) ≡ t1_after times now (pulled_timer first ran behind) old
t1_twice times now first ran false old = refl
t1_twice times now first true true old = refl
t1_twice times now first false true old = refl

t1_still : (times : Times) (now : ℕ) (first : Timer) (ran : Bool) (old : Option ℕ) → t1_after times now (timer_of ran false) (t1_after times now first old)
    ≡ t1_after times now (pulled_timer first ran ran) old
t1_still times now first false old = refl
t1_still times now first true old = refl

running_twice : (was is anew : Bool) (old new : Option ℕ) → (is ≡ true → was ≡ true) → running is false (running was anew old new) new ≡ running is anew old new
running_twice was false anew old new goes = refl
running_twice false true anew old new goes = absurd (true≢false (sym (goes refl)))
running_twice true true true old None goes = refl
running_twice true true true old (Some moment) goes = refl
running_twice true true false None None goes = refl
running_twice true true false None (Some moment) goes = refl
running_twice true true false (Some moment) new goes = refl

-- what doesn't come isn't heard
pub none_heard : (frames : List PlainFrame) (entries : List StationEntry) → is_heard false frames entries ≡ false
none_heard [] [] = refl
none_heard [] (e ∷ entries) = refl
none_heard (frame ∷ frames) entries = refl

-- where the link is at rest behind what is pulled, nothing was
heard_alike : (is come : Bool) (out more : List PlainFrame) (entries : List StationEntry) (old new : Option ℕ) → (is ≡ true → more ≡ [])
    → running is (is_heard come out entries) old new ≡ running is (is_heard come (out ++ more) entries) old new
heard_alike false come out more entries old new none = refl
heard_alike true come out more entries old new none =
    ap (λ (xs : List PlainFrame). running true (is_heard come xs entries) old new) (sym (ap (λ (ys : List PlainFrame). out ++ ys) (none refl) ∙ append-nil out))

-- ---- what is under way on a channel, heeded twice at one moment

running_new : (stands anew : Bool) (old new : Option ℕ) → running stands anew (running true false old new) new ≡ running stands anew old new
running_new false anew old new = refl
running_new true true old new = refl
running_new true false (Some moment) new = refl
running_new true false None None = refl
running_new true false None (Some moment) = refl

-- of the first data packet that isn't acknowledged: before, behind the step, and behind the pull
first_twice : (before mid last : Option ℕ) (old new : Option ℕ) → (is_some before ≡ false → old ≡ None) → (mid ≡ before) ⊎ (last ≡ mid)
    → running (is_some last) (not (is_same mid last)) (running (is_some mid) (not (is_same before mid)) old new) new
    ≡ running (is_some last) (not (is_same before last)) old new
first_twice before mid last old new off (inl is) =
    subst (λ (m : Option ℕ). running (is_some last) (not (is_same m last)) (running (is_some m) (not (is_same before m)) old new) new
    ≡ running (is_some last) (not (is_same before last)) old new) (sym is) (at before off)
  where
    at : (b : Option ℕ) → (is_some b ≡ false → old ≡ None) → running (is_some last) (not (is_same b last)) (running (is_some b) (not (is_same b b)) old new) new
        ≡ running (is_some last) (not (is_same b last)) old new
    at None off = ap (λ (x : Option ℕ). running (is_some last) (not (is_same None last)) x new) (sym (off refl))
    at (Some n) off =
        ap (λ (b : Bool). running (is_some last) (not (is_same (Some n) last)) (running true (not b) old new) new) (eq-eqb n n refl)
        ∙ running_new (is_some last) (not (is_same (Some n) last)) old new
first_twice before mid last old new off (inr is) =
    subst (λ (l : Option ℕ). running (is_some l) (not (is_same mid l)) (running (is_some mid) (not (is_same before mid)) old new) new
    ≡ running (is_some l) (not (is_same before l)) old new) (sym is) (at mid)
  where
    at : (m : Option ℕ) → running (is_some m) (not (is_same m m)) (running (is_some m) (not (is_same before m)) old new) new
        ≡ running (is_some m) (not (is_same before m)) old new
    at None = refl
    at (Some n) =
        let anew : Bool = not (is_same before (Some n)) in
        ap (λ (b : Bool). running true (not b) (running true anew old new) new) (eq-eqb n n refl) ∙ running_twice true true anew old new (λ e. e)

module _ (times : Times) (now : ℕ) where
  wait_twice : (a : Awaits) (mid last : Option ℕ) (w : Wait) → (is_some w.unacknowledged ≡ false → w.rotates ≡ None)
      → (mid ≡ w.unacknowledged) ⊎ (last ≡ mid) → wait_after times now a last (wait_after times now a mid w) ≡ wait_after times now a last w
  wait_twice a mid last w off same =
      let time : Option ℕ = deadline now (time_of times a) in
      let t25 : Option ℕ = deadline now times.t25 in
      let both : Option ℕ → Option ℕ → Wait = λ until rotates.
      record { channel = w.channel; awaits = a; until = until; unacknowledged = last; rotates = rotates } in
      let another : Bool = not (number_of w.awaits == number_of a) in
      let until : Option ℕ = running (is_any a) another w.until time in
      let rotates : Option ℕ = running (is_some mid) (not (is_same w.unacknowledged mid)) w.rotates t25 in
      ap (λ (b : Bool). both (running (is_any a) (not b) until time) (running (is_some last) (not (is_same mid last)) rotates t25))
      (eq-eqb (number_of a) (number_of a) refl)
      ∙ ap (λ (x : Option ℕ). both x (running (is_some last) (not (is_same mid last)) rotates t25))
      (running_twice (is_any a) (is_any a) another w.until time (λ e. e))
      ∙ ap (both until) (first_twice w.unacknowledged mid last w.rotates t25 off same)

  waits_twice : (at : ℕ) (old was is : ℕ → Awaits) (before mid last : ℕ → Option ℕ) (ws : List Wait) → ((h : ℕ) → is h ≡ was h)
      → ((h : ℕ) → mid h ≡ before h) ⊎ ((h : ℕ) → last h ≡ mid h) → AreAwaited times at old before ws
      → map (λ w. wait_after times now (is w.channel) (last w.channel) w) (map (λ w. wait_after times now (was w.channel) (mid w.channel) w) ws)
      ≡ map (λ w. wait_after times now (is w.channel) (last w.channel) w) ws
  waits_twice at old was is before mid last [] same firsts are = refl
  waits_twice at old was is before mid last (w ∷ ws) same firsts are =
      ap (λ (x : Wait). x ∷ map (λ y. wait_after times now (is y.channel) (last y.channel) y)
      (map (λ y. wait_after times now (was y.channel) (mid y.channel) y) ws)) one
      ∙ ap (λ (xs : List Wait). wait_after times now (is w.channel) (last w.channel) w ∷ xs) (waits_twice at old was is before mid last ws same firsts are.1)
    where
      here : ((h : ℕ) → mid h ≡ before h) ⊎ ((h : ℕ) → last h ≡ mid h) → (mid w.channel ≡ w.unacknowledged) ⊎ (last w.channel ≡ mid w.channel)
      here (inl e) = inl (e w.channel ∙ sym are.0.unacknowledged)
      here (inr e) = inr (e w.channel)

      one : wait_after times now (is w.channel) (last w.channel) (wait_after times now (was w.channel) (mid w.channel) w)
          ≡ wait_after times now (is w.channel) (last w.channel) w
      one =
          ap (λ (a : Awaits). wait_after times now (is w.channel) (last w.channel) (wait_after times now a (mid w.channel) w)) (sym (same w.channel))
          ∙ wait_twice (is w.channel) (mid w.channel) (last w.channel) w are.0.rotates.off (here firsts)

-- ---- all of them

parts : Option ℕ → Option ℕ → Option ℕ → List Wait → Deadlines
parts t1 idle restart waits = record { t1 = t1; idle = idle; restart = restart; waits = waits }

same_parts : (d e : Deadlines) → d.t1 ≡ e.t1 → d.idle ≡ e.idle → d.restart ≡ e.restart → d.waits ≡ e.waits → d ≡ e
unfolding parts
same_parts d e t1 idle restart waits =
    ap (λ (x : Option ℕ). parts x d.idle d.restart d.waits) t1
    ∙ ap (λ (x : Option ℕ). parts e.t1 x d.restart d.waits) idle
    ∙ ap (λ (x : Option ℕ). parts e.t1 e.idle x d.waits) restart
    ∙ ap (λ (x : List Wait). parts e.t1 e.idle e.restart x) waits

same_acked : (before after : LinkStation) → after.outgoing.acked ≡ before.outgoing.acked → is_acknowledged before after ≡ false
same_acked before after same = le-ltb _ _ (omega (arith, same))

-- an event that is accepted, and a pull behind it
module _ (c : Settings) (times : Times) (now at : ℕ) (s : Station) (event : timer.StationEvent) (step : Step) (d : Deadlines)
    (are : AreAwaited times at (λ h. awaited_at (layer_settings c) s.layer h) (λ h. unacknowledged_at (layer_settings c) s.layer h) d.waits) where
  abbrev became : Timer
  became = timer.timer s event (Did step)

  abbrev heard : Bool
  heard = is_heard (comes event) step.out step.entries

  abbrev awaited : Station → ℕ → Awaits
  awaited t h = awaited_at (layer_settings c) t.layer h

  abbrev first : Station → ℕ → Option ℕ
  first t h = unacknowledged_at (layer_settings c) t.layer h

  abbrev seen_both : Station → List PlainFrame → Seen
  seen_both next more = record {
    timer = pulled_timer became (runs step.near) (runs next);
    at_rest = is_at_rest next;
    restarting = next.layer.restarting;
    noted = tells_link step.entries;
    heard = is_heard (comes event) (step.out ++ more) step.entries;
    awaited = awaited next;
    unacknowledged = first next;
  }

  -- a layer that is as it was has the same packets out
  firsts : (next : Station) → (step.near.layer ≡ s.layer) ⊎ (next.layer ≡ step.near.layer)
      → ((h : ℕ) → first step.near h ≡ first s h) ⊎ ((h : ℕ) → first next h ≡ first step.near h)
  firsts next (inl e) = inl (λ h. ap (λ (l : Layer). unacknowledged_at (layer_settings c) l h) e)
  firsts next (inr e) = inr (λ h. ap (λ (l : Layer). unacknowledged_at (layer_settings c) l h) e)

  behind : (o : Outcome) → GoesOn c step.near (pulled_of step.near o)
      → (step.near.layer ≡ s.layer) ⊎ ((pulled_of step.near o).near.layer ≡ step.near.layer)
      → (is_at_rest (pulled_of step.near o).near ≡ true → (pulled_of step.near o).out ≡ [])
      → heeded times now (seen_of c step.near (timer.Asks (Requests PullsAll)) o) (heeded times now (seen_of c s event (Did step)) d)
      ≡ heeded times now (seen_both (pulled_of step.near o).near (pulled_of step.near o).out) d
  behind (Did p) goes left silent =
      let quiet : (tells_link p.entries || is_acknowledged step.near.link p.near.link) ≡ false =
      ap (λ (es : List StationEntry). tells_link es || is_acknowledged step.near.link p.near.link) goes.told
      ∙ same_acked step.near.link p.near.link goes.acked in
      same_parts _ _
      (ap (λ (b : Bool). t1_after times now (timer_of (runs p.near) (not (runs step.near) || b)) (t1_after times now became d.t1)) quiet
      ∙ t1_twice times now became (runs step.near) (runs p.near) d.t1)
      (ap (λ (b : Bool). running (is_at_rest p.near) b (running (is_at_rest step.near) heard d.idle (deadline now times.t3)) (deadline now times.t3))
      (none_heard p.out p.entries)
      ∙ running_twice (is_at_rest step.near) (is_at_rest p.near) heard d.idle (deadline now times.t3) goes.rests
      ∙ heard_alike (is_at_rest p.near) (comes event) step.out p.out step.entries d.idle (deadline now times.t3) silent)
      (ap (λ (es : List StationEntry). running p.near.layer.restarting (tells_link es)
      (running step.near.layer.restarting (tells_link step.entries) d.restart (deadline now times.t20)) (deadline now times.t20)) goes.told
      ∙ running_twice step.near.layer.restarting p.near.layer.restarting (tells_link step.entries) d.restart (deadline now times.t20)
      (λ is. sym goes.restarting ∙ is))
      (waits_twice times now at (awaited s) (awaited step.near) (awaited p.near) (first s) (first step.near) (first p.near) d.waits goes.awaits
      (firsts p.near left) are)
  behind (Refused e) goes left silent =
      same_parts _ _
      (t1_still times now became (runs step.near) d.t1)
      (running_twice (is_at_rest step.near) (is_at_rest step.near) heard d.idle (deadline now times.t3) (λ is. is)
      ∙ heard_alike (is_at_rest step.near) (comes event) step.out [] step.entries d.idle (deadline now times.t3) (λ is. refl))
      (running_twice step.near.layer.restarting step.near.layer.restarting (tells_link step.entries) d.restart (deadline now times.t20) (λ is. is))
      (waits_twice times now at (awaited s) (awaited step.near) (awaited step.near) (first s) (first step.near) (first step.near) d.waits (λ h. refl)
      (inr (λ h. refl)) are)

after_pulled : (s : Station) (o : Outcome) → (pulled_of s o).near ≡ timer.after s o
after_pulled s (Did step) = refl
after_pulled s (Refused e) = refl

-- what was done is heeded, and then the pull
module _ (goes : PullsGoOn) (c : Settings) (times : Times) (now at : ℕ) (s : Station) (event : timer.StationEvent) (step : Step) (d : Deadlines)
    (are : AreAwaited times at (λ h. awaited_at (layer_settings c) s.layer h) (λ h. unacknowledged_at (layer_settings c) s.layer h) d.waits)
    (settled : IsSettled c step.near) (left : HasPulled c s.layer step.near) where
  abbrev o : Outcome
  o = requests c step.near PullsAll

  abbrev mid : Watched
  mid = record { station = step.near; deadlines = heeded times now (seen_of c s event (Did step)) d; now = now }

  abbrev at_moment : ℕ → Watched
  at_moment n = record {
    station = timer.after step.near o;
    deadlines = heeded times n (seen_of c step.near (timer.Asks (Requests PullsAll)) o) mid.deadlines;
    now = n;
  }

  done_both : (let w : Watched = record { station = (pulled c step.near).near; deadlines = heeded times now (seen_pulled c s event step) d; now = now } in w)
      ≡ done c times pull mid
  done_both =
      let back : now + 0 ≡ now = omega arith in
      let next : Station = (pulled c step.near).near in
      ap (λ (t : Station). let w : Watched = record { station = t; deadlines = heeded times now (seen_pulled c s event step) d; now = now } in w)
      (after_pulled step.near o)
      ∙ ap (λ (e : Deadlines). let w : Watched = record { station = timer.after step.near o; deadlines = e; now = now } in w)
      (sym (behind c times now at s event step d are o (goes c step.near settled) left (pulled_rests c step.near settled)))
      ∙ sym (ap at_moment back)

-- what is true at a moment is so later
true_at : (c : Settings) (times : Times) (w : Watched) (before : ℕ) → before ≤ w.now → AreTrue c times (record w { now = before }) → AreTrue c times w
true_at c times w before past h =
    let later : before + (w.now - before) ≡ w.now = omega (arith, past) in
    subst (λ (n : ℕ). AreTrue c times (record w { now = n })) later (true_later c times (record w { now = before }) (w.now - before) h)

pub pull_is_heeded : PullsGoOn → StepsPull → PullIsHeeded
pull_is_heeded goes pulls c times (Happens later event) step w before past true_before settled is =
    let true_now : AreTrue c times w = true_at c times w before past true_before in
    let found : Watched = found_by times (Happens later event) w in
    done_both goes c times (w.now + later) w.now w.station event step found.deadlines true_now.waits settled
    (subst (PulledBy c w.station) is (pulls c w.station event))
    ∙ sym (ap (λ (o : Outcome). done c times pull (heeds c times (w.now + later) event o found)) is)
pull_is_heeded goes pulls c times (IsAsked later due) step w before past true_before settled is =
    let true_now : AreTrue c times w = true_at c times w before past true_before in
    let found : Watched = found_by times (IsAsked later due) w in
    let event : timer.StationEvent = event_of c (IsAsked later due) w.station in
    done_both goes c times (w.now + later) (w.now + later) w.station event step found.deadlines (due_true c times w later true_now).waits settled
    (subst (PulledBy c w.station) is (pulls c w.station event))
    ∙ sym (ap (λ (o : Outcome). done c times pull (heeds c times (w.now + later) event o found)) is)
