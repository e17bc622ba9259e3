-- Deadlines stand for what is awaited.
use Rattle.x25_clock.proofs.Names.{◌≡◌, ℕ, zero, suc, ◌+◌, ◌==◌, List, [], ◌∷◌, map, Bool, true, false, not, ◌||◌, if◌then◌else◌, Option, Some, None, refl, sym}
use Rattle.x25_clock.proofs.Names.{ap, subst, ◌∙◌, arith, true≢false, none-some, Awaits, Nothing, Acceptance, ResetConfirmation, ClearConfirmation}
use Rattle.x25_clock.proofs.Names.{InterruptConfirmation, awaited_at, is_some, is_any, is_same, unacknowledged_at, rotated, unmoved_of}
use Rattle.x25_clock.proofs.Names.{is_channel, Settings, layer_settings, Station, is_at_rest, Outcome, Did, Refused, runs, tells_link, is_acknowledged}
use Rattle.x25_clock.proofs.Names.{timer_of, Times, Wait, Deadlines, channels_from, deadline, time_of, number_of, running, is_past, t1_after, wait_after}
use Rattle.x25_clock.proofs.Names.{renewed, overdue_of, renewed_on, after_due, Moment, Watched, seen_of, heeds, watched_by, watched_from, IsSince, AreAwaited}
use Rattle.x25_clock.{proofs.Names.{AreTrue}, specs.Clock.{nothing_awaited, since}, specs.laws.ClockLaw.{Happens, IsDue, Stands, IsAwaited, DeadlinesAreTrue, TrueStays}}
use Rattle.x25_station.specs.Station.{new_station}
use Rattle.x25_station.specs.laws.TimerLaw as timer

-- ---- a deadline

begins : (now time : ℕ) → IsSince now time (deadline now time)
begins now time = record { since = now; past = omega arith; is = refl }

goes_on : (now more time : ℕ) (until : Option ℕ) → IsSince now time until → IsSince (now + more) time until
goes_on now more time until h = (let past = h.past in record { since = h.since; past = omega (arith, past); is = h.is })

stands_later : (now more time : ℕ) (so : Bool) (until : Option ℕ) → Stands now time so until → Stands (now + more) time so until
stands_later now more time so until h = record { on = λ yes. goes_on now more time until (h.on yes); off = h.off }

false_true : {A : Type 0} → false ≡ true → A
false_true e = absurd (true≢false (sym e))

-- a deadline that stands while something is so
runs_on : (now more time : ℕ) (was is anew : Bool) (until : Option ℕ) → Stands now time was until
    → Stands (now + more) time is (running is anew until (deadline (now + more) time))
runs_on now more time was false anew until h = record { on = λ e. false_true e; off = λ e. refl }
runs_on now more time was true true until h = record { on = λ e. begins (now + more) time; off = λ e. false_true (sym e) }
runs_on now more time was true false None h = record { on = λ e. begins (now + more) time; off = λ e. false_true (sym e) }
runs_on now more time true true false (Some moment) h = record { on = λ e. goes_on now more time (Some moment) (h.on refl); off = λ e. false_true (sym e) }
runs_on now more time false true false (Some moment) h = absurd (none-some moment (sym (h.off refl)))

-- ---- timer T1

t1_runs : (times : Times) (now more : ℕ) (was is other : Bool) (until : Option ℕ) → Stands now times.t1 was until
    → Stands (now + more) times.t1 is (t1_after times (now + more) (timer_of is (not was || other)) until)
t1_runs times now more was false other until h = record { on = λ e. false_true e; off = λ e. refl }
t1_runs times now more false true other until h = record { on = λ e. begins (now + more) times.t1; off = λ e. false_true (sym e) }
t1_runs times now more true true true until h = record { on = λ e. begins (now + more) times.t1; off = λ e. false_true (sym e) }
t1_runs times now more true true false until h = record { on = λ e. goes_on now more times.t1 until (h.on refl); off = λ e. false_true (sym e) }

t1_stands : (times : Times) (now more : ℕ) (was : Bool) (until : Option ℕ) → Stands now times.t1 was until
    → Stands (now + more) times.t1 was (t1_after times (now + more) (timer_of was false) until)
t1_stands times now more false until h = record { on = λ e. false_true e; off = λ e. refl }
t1_stands times now more true until h = record { on = λ e. goes_on now more times.t1 until (h.on refl); off = λ e. false_true (sym e) }

-- ---- a wait that isn't renewed

if_wait : (h : ℕ) (b : Bool) (u v : Wait) → u.channel ≡ h → v.channel ≡ h → (let w : Wait = if b then u else v in w.channel) ≡ h
if_wait h true u v p q = p
if_wait h false u v p q = q

pub renewed_channel : (times : Times) (now k : ℕ) (w : Wait) → (renewed times now k w).channel ≡ w.channel
renewed_channel times now k w = if_wait w.channel (not (w.channel == k)) _ _ refl refl

pub rotated_channel : (times : Times) (now k : ℕ) (w : Wait) → (rotated times now k w).channel ≡ w.channel
rotated_channel times now k w = if_wait w.channel (not (w.channel == k)) _ _ refl refl

-- ---- channels

same_number : (a b : Awaits) → (number_of a == number_of b) ≡ true → a ≡ b
same_number Nothing Nothing e = refl
same_number Acceptance Acceptance e = refl
same_number ResetConfirmation ResetConfirmation e = refl
same_number ClearConfirmation ClearConfirmation e = refl
same_number InterruptConfirmation InterruptConfirmation e = refl
same_number a b e = false_true e

not_false : (b : Bool) → not b ≡ false → b ≡ true
not_false true e = refl
not_false false e = absurd (true≢false e)

-- a deadline that begins now, where something is so
since_stands : (now time : ℕ) (so : Bool) → Stands now time so (since so now time)
since_stands now time true = record { on = λ e. begins now time; off = λ e. false_true (sym e) }
since_stands now time false = record { on = λ e. false_true e; off = λ e. refl }

module _ (times : Times) (now more : ℕ) where
  -- the deadline of an answer
  answer_since : (a : Awaits) (anew : Bool) (until : Option ℕ) → (anew ≡ false → IsSince now (time_of times a) until)
      → IsSince (now + more) (time_of times a) (running (is_any a) anew until (deadline (now + more) (time_of times a)))
  answer_since Nothing anew until was = record { since = now + more; past = omega arith; is = refl }
  answer_since a true until was = begins (now + more) (time_of times a)
  answer_since a false None was = begins (now + more) (time_of times a)
  answer_since a false (Some moment) was = goes_on now more (time_of times a) (Some moment) (was refl)

  wait_true : (old new : ℕ → Awaits) (first next : ℕ → Option ℕ) (w : Wait) → IsAwaited times now old first w
      → IsAwaited times (now + more) new next (wait_after times (now + more) (new w.channel) (next w.channel) w)
  wait_true old new first next w h = record {
    awaits = refl;
    until = answer_since (new w.channel) (not (number_of w.awaits == number_of (new w.channel))) w.until
        (λ e. subst (λ (a : Awaits). IsSince now (time_of times a) w.until)
        (same_number w.awaits (new w.channel) (not_false (number_of w.awaits == number_of (new w.channel)) e)) h.until);
    unacknowledged = refl;
    rotates = runs_on now more times.t25 (is_some w.unacknowledged) (is_some (next w.channel)) (not (is_same w.unacknowledged (next w.channel))) w.rotates
        h.rotates;
  }

  waits_true : (old new : ℕ → Awaits) (first next : ℕ → Option ℕ) (waits : List Wait) → AreAwaited times now old first waits
      → AreAwaited times (now + more) new next (map (λ w. wait_after times (now + more) (new w.channel) (next w.channel) w) waits)
  waits_true old new first next [] h = tt
  waits_true old new first next (w ∷ waits) h = (wait_true old new first next w h.0, waits_true old new first next waits h.1)

  waits_channels : (new : ℕ → Awaits) (next : ℕ → Option ℕ) (waits : List Wait)
      → map (λ (x : Wait). x.channel) (map (λ w. wait_after times (now + more) (new w.channel) (next w.channel) w) waits) ≡ map (λ (x : Wait). x.channel) waits
  waits_channels new next [] = refl
  waits_channels new next (w ∷ waits) = ap (λ (hs : List ℕ). w.channel ∷ hs) (waits_channels new next waits)

  wait_later : (awaited : ℕ → Awaits) (first : ℕ → Option ℕ) (w : Wait) → IsAwaited times now awaited first w
      → IsAwaited times (now + more) awaited first w
  wait_later awaited first w is = record {
    awaits = is.awaits;
    until = goes_on now more (time_of times w.awaits) w.until is.until;
    unacknowledged = is.unacknowledged;
    rotates = stands_later now more times.t25 (is_some w.unacknowledged) w.rotates is.rotates;
  }

  all_later : (awaited : ℕ → Awaits) (first : ℕ → Option ℕ) (waits : List Wait) → AreAwaited times now awaited first waits
      → AreAwaited times (now + more) awaited first waits
  all_later awaited first [] is = tt
  all_later awaited first (w ∷ waits) is = (wait_later awaited first w is.0, all_later awaited first waits is.1)

  -- what is due is asked for, and its time begins anew
  renewed_true : (awaited : ℕ → Awaits) (first : ℕ → Option ℕ) (h : ℕ) (w : Wait) → IsAwaited times now awaited first w
      → IsAwaited times (now + more) awaited first (renewed times (now + more) h w)
  renewed_true awaited first h w is = by (not (w.channel == h))
    where
      later : IsAwaited times (now + more) awaited first w
      later = wait_later awaited first w is

      by : (b : Bool) → IsAwaited times (now + more) awaited first (if b then w else record {
        channel = w.channel;
        awaits = w.awaits;
        until = deadline (now + more) (time_of times w.awaits);
        unacknowledged = w.unacknowledged;
        rotates = w.rotates;
      })
      by true = later
      by false = record {
        awaits = is.awaits;
        until = begins (now + more) (time_of times w.awaits);
        unacknowledged = is.unacknowledged;
        rotates = later.rotates;
      }

  rotated_true : (awaited : ℕ → Awaits) (first : ℕ → Option ℕ) (h : ℕ) (w : Wait) → IsAwaited times now awaited first w
      → IsAwaited times (now + more) awaited first (rotated times (now + more) h w)
  rotated_true awaited first h w is = by (not (w.channel == h))
    where
      later : IsAwaited times (now + more) awaited first w
      later = wait_later awaited first w is

      by : (b : Bool) → IsAwaited times (now + more) awaited first (if b then w else record {
        channel = w.channel;
        awaits = w.awaits;
        until = w.until;
        unacknowledged = w.unacknowledged;
        rotates = since (is_some w.unacknowledged) (now + more) times.t25;
      })
      by true = later
      by false = record {
        awaits = is.awaits;
        until = later.until;
        unacknowledged = is.unacknowledged;
        rotates = since_stands (now + more) times.t25 (is_some w.unacknowledged);
      }

  -- each of these is so where each before was
  all_changed : (f : Wait → Wait) (awaited : ℕ → Awaits) (first : ℕ → Option ℕ)
      → ((w : Wait) → IsAwaited times now awaited first w → IsAwaited times (now + more) awaited first (f w)) → (waits : List Wait)
      → AreAwaited times now awaited first waits → AreAwaited times (now + more) awaited first (map f waits)
  all_changed f awaited first one [] is = tt
  all_changed f awaited first one (w ∷ waits) is = (one w is.0, all_changed f awaited first one waits is.1)

  changed_channels : (f : Wait → Wait) → ((w : Wait) → (f w).channel ≡ w.channel) → (waits : List Wait)
      → map (λ (x : Wait). x.channel) (map f waits) ≡ map (λ (x : Wait). x.channel) waits
  changed_channels f keeps [] = refl
  changed_channels f keeps (w ∷ waits) = ap (λ (k : ℕ). k ∷ map (λ (x : Wait). x.channel) (map f waits)) (keeps w)
      ∙ ap (λ (hs : List ℕ). w.channel ∷ hs) (changed_channels f keeps waits)

-- ---- moments

module _ (c : Settings) (times : Times) where
  abbrev awaited_by : Station → ℕ → Awaits
  awaited_by s h = awaited_at (layer_settings c) s.layer h

  abbrev first_by : Station → ℕ → Option ℕ
  first_by s h = unacknowledged_at (layer_settings c) s.layer h

  pub happens_true : (w : Watched) (more : ℕ) (event : timer.StationEvent) (o : Outcome) → AreTrue c times w
      → AreTrue c times (heeds c times (w.now + more) event o w)
  happens_true w more event (Did step) h = record {
    t1 = t1_runs times w.now more (runs w.station) (runs step.near)
        (timer.is_firing event || (tells_link step.entries || is_acknowledged w.station.link step.near.link)) w.deadlines.t1 h.t1;
    idle = runs_on w.now more times.t3 (is_at_rest w.station) (is_at_rest step.near) (seen_of c w.station event (Did step)).heard w.deadlines.idle h.idle;
    restart = runs_on w.now more times.t20 w.station.layer.restarting step.near.layer.restarting (tells_link step.entries) w.deadlines.restart h.restart;
    waits = waits_true times w.now more (awaited_by w.station) (awaited_by step.near) (first_by w.station) (first_by step.near) w.deadlines.waits h.waits;
    channels = waits_channels times w.now more (awaited_by step.near) (first_by step.near) w.deadlines.waits ∙ h.channels;
  }
  happens_true w more event (Refused e) h = record {
    t1 = t1_stands times w.now more (runs w.station) w.deadlines.t1 h.t1;
    idle = runs_on w.now more times.t3 (is_at_rest w.station) (is_at_rest w.station) (seen_of c w.station event (Refused e)).heard w.deadlines.idle h.idle;
    restart = runs_on w.now more times.t20 w.station.layer.restarting w.station.layer.restarting false w.deadlines.restart h.restart;
    waits = waits_true times w.now more (awaited_by w.station) (awaited_by w.station) (first_by w.station) (first_by w.station) w.deadlines.waits h.waits;
    channels = waits_channels times w.now more (awaited_by w.station) (first_by w.station) w.deadlines.waits ∙ h.channels;
  }

  -- a deadline that is past begins anew
  anew : (now more time : ℕ) (so : Bool) (until : Option ℕ) → is_past (now + more) until ≡ true → Stands now time so until
      → Stands (now + more) time so (deadline (now + more) time)
  anew now more time true until past h = record { on = λ e. begins (now + more) time; off = λ e. false_true (sym e) }
  anew now more time false until past h = false_true (sym (ap (is_past (now + more)) (h.off refl)) ∙ past)

  pub due_true : (w : Watched) (more : ℕ) → AreTrue c times w
      → AreTrue c times (record w { deadlines = after_due times (w.now + more) w.deadlines; now = w.now + more })
  due_true w more h = by (is_past now d.t1) refl
    where
      d : Deadlines
      d = w.deadlines

      now : ℕ
      now = w.now + more

      At : Deadlines → Type 0
      At e = AreTrue c times (record w { deadlines = e; now = w.now + more })

      t1 : Stands now times.t1 (runs w.station) d.t1
      t1 = stands_later w.now more times.t1 (runs w.station) d.t1 h.t1

      idle : Stands now times.t3 (is_at_rest w.station) d.idle
      idle = stands_later w.now more times.t3 (is_at_rest w.station) d.idle h.idle

      restart : Stands now times.t20 w.station.layer.restarting d.restart
      restart = stands_later w.now more times.t20 w.station.layer.restarting d.restart h.restart

      waits : AreAwaited times now (awaited_by w.station) (first_by w.station) d.waits
      waits = all_later times w.now more (awaited_by w.station) (first_by w.station) d.waits h.waits

      changed : (f : Wait → Wait) → ((x : Wait) → (f x).channel ≡ x.channel)
          → ((x : Wait) → IsAwaited times w.now (awaited_by w.station) (first_by w.station) x
          → IsAwaited times now (awaited_by w.station) (first_by w.station) (f x)) → At (record d { waits = map f d.waits })
      changed f keeps one = record {
        t1 = t1;
        idle = idle;
        restart = restart;
        waits = all_changed times w.now more f (awaited_by w.station) (first_by w.station) one d.waits h.waits;
        channels = changed_channels times w.now more f keeps d.waits ∙ h.channels;
      }

      on_channels : (o : Option Wait) (u : Option ℕ) (is_idle : Bool) → is_past now d.idle ≡ is_idle → At (renewed_on times now o u is_idle d)
      on_channels (Some x) u is_idle e = changed (renewed times now x.channel) (renewed_channel times now x.channel)
          (renewed_true times w.now more (awaited_by w.station) (first_by w.station) x.channel)
      on_channels None (Some k) is_idle e = changed (rotated times now k) (rotated_channel times now k)
          (rotated_true times w.now more (awaited_by w.station) (first_by w.station) k)
      on_channels None None true e = record {
        t1 = t1;
        idle = anew w.now more times.t3 (is_at_rest w.station) d.idle e h.idle;
        restart = restart;
        waits = waits;
        channels = h.channels;
      }
      on_channels None None false e = record { t1 = t1; idle = idle; restart = restart; waits = waits; channels = h.channels }

      behind : (b : Bool) → is_past now d.restart ≡ b
          → At (if b then record d { restart = deadline now times.t20 }
          else renewed_on times now (overdue_of now d.waits) (unmoved_of now d.waits) (is_past now d.idle) d)
      behind true e = record {
        t1 = t1;
        idle = idle;
        restart = anew w.now more times.t20 w.station.layer.restarting d.restart e h.restart;
        waits = waits;
        channels = h.channels;
      }
      behind false e = on_channels (overdue_of now d.waits) (unmoved_of now d.waits) (is_past now d.idle) refl

      by : (b : Bool) → is_past now d.t1 ≡ b
          → At (if b then record d { t1 = deadline now times.t1 } else if is_past now d.restart then record d { restart = deadline now times.t20 }
          else renewed_on times now (overdue_of now d.waits) (unmoved_of now d.waits) (is_past now d.idle) d)
      by true e = record { t1 = anew w.now more times.t1 (runs w.station) d.t1 e h.t1; idle = idle; restart = restart; waits = waits; channels = h.channels }
      by false e = behind (is_past now d.restart) refl

  moment_true : (moment : Moment) (w : Watched) → AreTrue c times w → AreTrue c times (watched_by c times moment w)
  moment_true (Happens later event) w h = happens_true w later event (timer.outcome c w.station event) h
  moment_true (IsDue later) w h = due_true w later h

  -- a time passes
  pub true_later : (w : Watched) (more : ℕ) → AreTrue c times w → AreTrue c times (record w { now = w.now + more })
  true_later w more h = record {
    t1 = stands_later w.now more times.t1 (runs w.station) w.deadlines.t1 h.t1;
    idle = stands_later w.now more times.t3 (is_at_rest w.station) w.deadlines.idle h.idle;
    restart = stands_later w.now more times.t20 w.station.layer.restarting w.deadlines.restart h.restart;
    waits = all_later times w.now more (awaited_by w.station) (first_by w.station) w.deadlines.waits h.waits;
    channels = h.channels;
  }

  from_here : (moments : List Moment) (w : Watched) → AreTrue c times w → AreTrue c times (watched_from c times moments w)
  from_here [] w h = h
  from_here (moment ∷ moments) w h = from_here moments (watched_by c times moment w) (moment_true moment w h)

  -- ---- the first one

  nothing_on : (b : Bool) → Nothing ≡ (if b then Nothing else Nothing)
  nothing_on true = refl
  nothing_on false = refl

  none_on : (b : Bool) → None ≡ (let o : Option ℕ = if b then None else None in o)
  none_on true = refl
  none_on false = refl

  off_first : (time : ℕ) → Stands 0 time false None
  off_first time = record { on = λ e. false_true e; off = λ e. refl }

  first_waits : (n first : ℕ) → AreAwaited times 0 (awaited_by new_station) (first_by new_station) (channels_from first n)
  first_waits zero first = tt
  first_waits (suc n) first = (
    record {
      awaits = nothing_on (is_channel c.channels first);
      until = record { since = 0; past = omega arith; is = refl };
      unacknowledged = none_on (is_channel c.channels first);
      rotates = off_first times.t25;
    },
    first_waits n (first + 1),
  )

  first_true : AreTrue c times (record { station = new_station; deadlines = nothing_awaited c.channels.count; now = 0 })
  first_true = record {
    t1 = off_first times.t1;
    idle = off_first times.t3;
    restart = off_first times.t20;
    waits = first_waits c.channels.count 1;
    channels = refl;
  }

pub deadlines_are_true : DeadlinesAreTrue
deadlines_are_true c times moments = from_here c times moments _ (first_true c times)

pub true_stays : TrueStays
true_stays = from_here
