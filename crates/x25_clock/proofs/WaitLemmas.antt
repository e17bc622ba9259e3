-- An answer is awaited no longer than the times say, where what is due is asked at once.
use Rattle.x25_clock.proofs.Names.{◌≡◌, ℕ, zero, suc, ◌+◌, ◌^◌, ◌<◌, ◌≤◌, ◌==◌, ◌⊎◌, inl, inr, List, [], ◌∷◌, map, Bool, true, false, not, nat_le}
use Rattle.x25_clock.proofs.Names.{if◌then◌else◌, Option, Some, None, refl, sym, ap, subst, ◌∙◌, arith, true≢false, eqb-true, eq-eqb, leb-true, and_parts}
use Rattle.x25_clock.proofs.Names.{none-some, Phase, Waiting, Up, is_up, Awaits, Nothing, Acceptance, ResetConfirmation, ClearConfirmation, InterruptConfirmation}
use Rattle.x25_clock.proofs.Names.{is_channel, awaited_at, Settings, layer_settings, Station, Step, Outcome, Did, Refused, tells_link, rank_of, rank}
use Rattle.x25_clock.proofs.Names.{AwaitsStill, Due, Times, Wait, Deadlines, channels_from, deadline, is_past, sooner, number_of, time_of, running, wait_after}
use Rattle.x25_clock.proofs.Names.{heeded, next_of, overdue_of, unless_on, due_of, renewed, renewed_on, after_due, Watched, seen_of, heeds, watched, IsSince}
use Rattle.x25_clock.proofs.Names.{AreAwaited, AreTrue, Deed, Happens, IsAsked, later_by, event_of, found_by, outcome_of, done, all_done, IsFounded, IsNotPast}
use Rattle.x25_clock.proofs.Names.{AreObeyed, tells, AwaitsAll, NothingWaits, is_any, is_some, rotated, unacknowledged_at, unmoved_of}
use Rattle.x25_clock.proofs.ClockLemmas.{happens_true, due_true, deadlines_are_true, renewed_channel}
use Rattle.x25_clock.proofs.DeadlineLemmas.{AreNotPast, waits_past, restart_past, or_t1, Ends, begins_at, end_in_time, ends_by, runs_still}
use Rattle.x25_clock.specs.{Clock.{asked_for, due_on, since, unless_unmoved}, laws.WaitLaw.{longest_wait, AreSet}}
use Rattle.x25_clock.proofs.FullLemmas.{Keeps, reset_asked, reset_relinks, clear_asked, clear_relinks, deed_kept, moments_kept, new_kept, restart_asked}
use Rattle.x25_clock.proofs.FullLemmas.{restart_relinks}
use Rattle.x25_circuit.specs.Circuit.{awaited_by}
use Rattle.x25_clock.specs.Due.{asked_of, event_for}
use Rattle.x25_station.specs.laws.KeepLaw.{IsKept}
use Rattle.x25_link.specs.Outgoing.{waits}
use Rattle.x25_station.specs.laws.WayOutLaw.{rank_in, is_call, IsNearer, LeadsOn, ResetLeadsOn, ClearLeadsOn, RestartLeadsOn, RelinkLeadsOn, NothingLeadsBack}
use Rattle.x25_station.specs.laws.TimerLaw as timer
use Rattle.x25_clock.specs.declared.due.Due.TheVariants as due

-- ---- what is asked, and the deadlines behind it

pub record AsksNone (d e : Deadlines) : Type 0 where
  pub restart : e.restart ≡ d.restart
  pub waits : e.waits ≡ d.waits

pub record AsksRelink (d e : Deadlines) (what : Due) : Type 0 where
  pub is : what ≡ due.Relink
  pub waits : e.waits ≡ d.waits

pub record AsksRotation (times : Times) (now : ℕ) (d e : Deadlines) (what : Due) : Type 0 where
  pub channel : ℕ
  pub is : what ≡ due.ResetUnacknowledged channel
  pub restart : e.restart ≡ d.restart
  pub waits : e.waits ≡ map (rotated times now channel) d.waits

pub record AsksOn (times : Times) (now : ℕ) (d e : Deadlines) (what : Due) : Type 0 where
  pub wait : Wait
  pub found : overdue_of now d.waits ≡ Some wait
  pub is : due_on wait ≡ Some what
  pub restart : e.restart ≡ d.restart
  pub waits : e.waits ≡ map (renewed times now wait.channel) d.waits

abbrev or_wait : Wait → Option Wait → Wait
or_wait w None = w
or_wait w (Some x) = x

module _ (times : Times) (now : ℕ) (d : Deadlines) (what : Due) where
  abbrev due_by : Bool → Bool → Option Wait → Option ℕ → Bool → Option Due
  due_by t1 restart o u idle = if t1 then Some due.T1 else if restart then Some due.Relink
      else unless_on o (unless_unmoved u (if idle then Some due.Probe else None))

  abbrev after_by : Bool → Bool → Option Wait → Option ℕ → Bool → Deadlines
  after_by t1 restart o u idle = if t1 then record d { t1 = deadline now times.t1 } else if restart then record d { restart = deadline now times.t20 }
      else renewed_on times now o u idle d

  abbrev pub WhatIsAsked : Deadlines → Type 0
  WhatIsAsked e = AsksNone d e ⊎ (AsksRelink d e what ⊎ (AsksOn times now d e what ⊎ AsksRotation times now d e what))

  asked_by : (t1 restart : Bool) (o : Option Wait) (u : Option ℕ) (idle : Bool) → overdue_of now d.waits ≡ o → due_by t1 restart o u idle ≡ Some what
      → WhatIsAsked (after_by t1 restart o u idle)
  asked_by true restart o u idle found is = inl (record { restart = refl; waits = refl })
  asked_by false true o u idle found is = inr (inl (record { is = sym (ap or_t1 is); waits = refl }))
  asked_by false false (Some x) u idle found is = inr (inr (inl (record { wait = x; found = found; is = is; restart = refl; waits = refl })))
  asked_by false false None (Some h) idle found is = inr (inr (inr (record { channel = h; is = sym (ap or_t1 is); restart = refl; waits = refl })))
  asked_by false false None None true found is = inl (record { restart = refl; waits = refl })
  asked_by false false None None false found is = absurd (none-some what is)

  pub what_is_asked : due_of now d ≡ Some what → WhatIsAsked (after_due times now d)
  what_is_asked is = asked_by (is_past now d.t1) (is_past now d.restart) (overdue_of now d.waits) (unmoved_of now d.waits) (is_past now d.idle) refl is

-- the first channel on which an answer is due awaits what it is said to
overdue_is : (times : Times) (before now : ℕ) (f : ℕ → Awaits) (g : ℕ → Option ℕ) (ws : List Wait) (x : Wait) → AreAwaited times before f g ws
    → overdue_of now ws ≡ Some x
    → x.awaits ≡ f x.channel
overdue_is times before now f g [] x are is = absurd (none-some x is)
overdue_is times before now f g (w ∷ ws) x are is = by (overdue_is times before now f g ws x are.1) (is_past now w.until) is
  where
    by : (overdue_of now ws ≡ Some x → x.awaits ≡ f x.channel) → (b : Bool) → (if b then Some w else overdue_of now ws) ≡ Some x → x.awaits ≡ f x.channel
    by rest true e = subst (λ (y : Wait). y.awaits ≡ f y.channel) (ap (or_wait w) e) are.0.awaits
    by rest false e = rest e

-- ---- the list has each channel once

abbrev pub Has : ℕ → List ℕ → Type 0
Has h [] = ⊥
Has h (k ∷ ks) = (k ≡ h) ⊎ Has h ks

abbrev pub channel_in : Wait → ℕ
channel_in w = w.channel

has_channel : (h n first : ℕ) → first ≤ h → h < first + n → Has h (map channel_in (channels_from first n))
has_channel h zero first low high = absurd (omega (arith, low, high))
has_channel h (suc n) first low high = test (λ more. has_channel h n (first + 1) more (omega (arith, high))) (first == h) refl
  where
    test : (first + 1 ≤ h → Has h (map channel_in (channels_from (first + 1) n))) → (b : Bool) → (first == h) ≡ b → (first ≡ h)
        ⊎ Has h (map channel_in (channels_from (first + 1) n))
    test rest true is = inl (eqb-true first h is)
    test rest false is = inr (rest (omega (arith, low, (λ (same : first ≡ h). true≢false (sym (eq-eqb first h same) ∙ is)))))

-- the list has each configured channel
pub has_it : (c : Settings) (times : Times) (h : ℕ) (w : Watched) → AreTrue c times w → is_channel c.channels h ≡ true
    → Has h (map channel_in w.deadlines.waits)
has_it c times h w true_now is =
    let both = and_parts (nat_le 1 h) (nat_le h c.channels.count) is in
    let low : 1 ≤ h = leb-true 1 h both.0 in
    let high : h ≤ c.channels.count = leb-true h c.channels.count both.1 in
    subst (Has h) (sym true_now.channels) (has_channel h c.channels.count 1 low (omega (arith, high)))

-- ---- room for a packet

pub room_or_full : (n : ℕ) → n ≤ 256 → ((n == 256) ≡ true) ⊎ (n < 256)
room_or_full n few = test (n == 256) refl
  where
    test : (b : Bool) → (n == 256) ≡ b → ((n == 256) ≡ true) ⊎ (n < 256)
    test true is = inl is
    test false is = inr (omega (arith, few, (λ (same : n ≡ 256). true≢false (sym (eq-eqb n 256 same) ∙ is))))

-- ---- a deed leaves the deadlines true

pub deed_true : (c : Settings) (times : Times) (w : Watched) (deed : Deed) → AreTrue c times w → AreTrue c times (done c times deed w)
deed_true c times w (Happens later event) true_now = happens_true c times w later event (timer.outcome c w.station event) true_now
deed_true c times w (IsAsked later what) true_now =
    let found : Watched = found_by times (IsAsked later what) w in
    let nothing : found.now + 0 ≡ found.now = omega arith in
    let event : timer.StationEvent = event_of c (IsAsked 0 what) w.station in
    subst (λ (n : ℕ). AreTrue c times (heeds c times n event (timer.outcome c w.station event) found)) nothing
    (happens_true c times found 0 event (timer.outcome c w.station event) (due_true c times w later true_now))

-- ---- a wait that isn't renewed

not_renewed : (times : Times) (now k : ℕ) (w : Wait) → (w.channel == k) ≡ false → renewed times now k w ≡ w
not_renewed times now k w is = ap (λ (b : Bool). let x : Wait = if not b then w
    else record {
      channel = w.channel;
      awaits = w.awaits;
      until = deadline now (time_of times w.awaits);
      unacknowledged = w.unacknowledged;
      rotates = w.rotates;
    } in x) is

-- ---- what a rank says

low_one : {A : Type 0} (n : ℕ) → n ≤ 1 → 2 ≤ n → A
low_one n low high = absurd (omega (arith, low, high))

pub is_up_high : (p : Phase) (r : Bool) (a : Awaits) → 2 ≤ rank_of p r a → is_up p ≡ true
is_up_high Waiting r a high = low_one 1 (omega arith) high
is_up_high Up r a high = refl
is_up_high p r a high = low_one 0 (omega arith) high

is_configured : (p : Phase) (b : Bool) (a : Awaits) → 2 ≤ rank_of p false (if b then a else Nothing) → b ≡ true
is_configured p true a high = refl
is_configured Waiting false a high = low_one 1 (omega arith) high
is_configured p false a high = low_one 0 (omega arith) high

pub rank_up : (p : Phase) (r : Bool) (a : Awaits) → is_up p ≡ true → rank_of p r a ≡ rank_of Up r a
rank_up Up r a up = refl
rank_up p r a up = absurd (true≢false (sym up))

-- what is awaited still has the same rank
pub still_rank : (c : Settings) (s next : Station) (h : ℕ) → 2 ≤ rank c s h → AwaitsStill c s next h → rank c next h ≡ rank c s h
still_rank c s next h high still =
    let awaited : Station → Awaits = λ t. awaited_at (layer_settings c) t.layer h in
    let up : is_up s.link.phase ≡ true = is_up_high s.link.phase s.layer.restarting (awaited s) high in
    rank_up next.link.phase next.layer.restarting (awaited next) still.up
    ∙ ap (λ (r : Bool). rank_of Up r (awaited next)) still.restarting
    ∙ ap (λ (a : Awaits). rank_of Up s.layer.restarting a) still.awaits
    ∙ sym (rank_up s.link.phase s.layer.restarting (awaited s) up)

-- another answer that is awaited for this one, for which there is time
record IsAnother (times : Times) (left_a left_b : ℕ) (a b : Awaits) : Type 0 where
  enough : time_of times b + left_b ≤ left_a
  some : 0 < time_of times b
  any : is_any b ≡ true
  differ : (number_of a == number_of b) ≡ false

abbrev pub asks : Settings → Station → Due → timer.StationEvent
asks c s what = event_of c (IsAsked 0 what) s

-- what is due is asked, and the rank is lower
record Falls (c : Settings) (h : ℕ) (s : Station) (what : Due) : Type 0 where
  step : Step
  is : timer.outcome c s (asks c s what) ≡ Did step
  low : rank c step.near h < rank c s h

-- the laws of the station that are used
record Laws : Type 0 where
  reset : ResetLeadsOn
  clear : ClearLeadsOn
  restart : RestartLeadsOn
  relink : RelinkLeadsOn
  back : NothingLeadsBack

module _ (c : Settings) (times : Times) (h bound : ℕ) (first : Awaits) (set : AreSet times first) (small : bound < 2 ^ 64) where
  -- what may still follow
  abbrev left : Awaits → ℕ
  left Nothing = 0
  left Acceptance = times.t23 + times.t20
  left ResetConfirmation = times.t23 + times.t20
  left ClearConfirmation = times.t20
  left InterruptConfirmation = times.t22 + (times.t23 + times.t20)

  abbrev OnChannel : List Wait → Type 0
  OnChannel [] = Unit {0}
  OnChannel (w ∷ ws) = (w.channel ≡ h → Ends bound w.until (left w.awaits)) × OnChannel ws

  -- the restart, or what is awaited on the channel
  abbrev IsBy : Bool → Option ℕ → List Wait → Type 0
  IsBy true restart ws = Ends bound restart 0
  IsBy false restart ws = OnChannel ws

  abbrev InTime : Bool → Awaits → ℕ → Type 0
  InTime true a now = now ≤ bound
  InTime false a now = now + left a ≤ bound

  abbrev awaited : Station → Awaits
  awaited s = awaited_at (layer_settings c) s.layer h

  -- ---- no deadline is past

  channel_in_time : (before now : ℕ) (f : ℕ → Awaits) (g : ℕ → Option ℕ) (ws : List Wait) → Has h (map channel_in ws) → AreAwaited times before f g ws
      → OnChannel ws → AreNotPast now ws → now + left (f h) ≤ bound
  channel_in_time before now f g [] has are on past = absurd has
  channel_in_time before now f g (w ∷ ws) (inl is) are on past =
      subst (λ (a : Awaits). now + left a ≤ bound) (are.0.awaits ∙ ap f is) (end_in_time bound now w.until (left w.awaits) (on.0 is) past.0)
  channel_in_time before now f g (w ∷ ws) (inr has) are on past = channel_in_time before now f g ws has are.1 on.1 past.2

  in_time : (w : Watched) (now : ℕ) → AreTrue c times w → 2 ≤ rank c w.station h → IsNotPast now (next_of w.deadlines)
      → IsBy w.station.layer.restarting w.deadlines.restart w.deadlines.waits
      → InTime w.station.layer.restarting (awaited w.station) now
  in_time w now true_now high past by = on w.station.layer.restarting refl by
    where
      d : Deadlines
      d = w.deadlines

      on : (r : Bool) → w.station.layer.restarting ≡ r → IsBy r d.restart d.waits → InTime r (awaited w.station) now
      on true is by = let low : now + 0 ≤ bound = end_in_time bound now d.restart 0 by (restart_past now d past) in omega (arith, low)
      on false is by =
          let two : 2 ≤ rank_of w.station.link.phase false (awaited w.station) =
          subst (λ (r : Bool). 2 ≤ rank_of w.station.link.phase r (awaited w.station)) is high in
          channel_in_time w.now now (λ k. awaited_at (layer_settings c) w.station.layer k) (λ k. unacknowledged_at (layer_settings c) w.station.layer k)
          d.waits (has_it c times h w true_now (is_configured w.station.link.phase (is_channel c.channels h) (awaited_by (w.station.layer.circuits h)) two)) true_now.waits by
          (waits_past now d.waits (sooner (sooner d.t1 d.idle) d.restart) past)

  now_in_time : (r : Bool) (a : Awaits) (now : ℕ) → InTime r a now → now ≤ bound
  now_in_time true a now low = low
  now_in_time false a now low = omega (arith, low)

  -- ---- behind a step

  -- the waits behind it
  abbrev heeded_waits : ℕ → (ℕ → Awaits) → (ℕ → Option ℕ) → List Wait → List Wait
  heeded_waits now f g ws = map (λ w. wait_after times now (f w.channel) (g w.channel) w) ws

  -- what is awaited is what was
  still_ends : (a : Awaits) (until new : Option ℕ) → is_any a ≡ true → Ends bound until (left a)
      → Ends bound (running (is_any a) (not (number_of a == number_of a)) until new) (left a)
  still_ends a until new any ends =
      subst (λ (b : Bool). Ends bound (running b (not (number_of a == number_of a)) until new) (left a)) (sym any)
      (subst (λ (b : Bool). Ends bound (running true (not b) until new) (left a)) (sym (eq-eqb (number_of a) (number_of a) refl))
      (runs_still bound (left a) until new ends))

  waits_stay : (before now : ℕ) (old new : ℕ → Awaits) (g k : ℕ → Option ℕ) (ws : List Wait) → new h ≡ old h → is_any (old h) ≡ true
      → AreAwaited times before old g ws → OnChannel ws → OnChannel (heeded_waits now new k ws)
  waits_stay before now old new g k [] same any are on = tt
  waits_stay before now old new g k (w ∷ ws) same any are on = (first_wait, waits_stay before now old new g k ws same any are.1 on.1)
    where
      first_wait : w.channel ≡ h → (let x : Wait = wait_after times now (new w.channel) (k w.channel) w in Ends bound x.until (left x.awaits))
      first_wait at_h =
          let was : w.awaits ≡ old h = are.0.awaits ∙ ap old at_h in
          let is : w.awaits ≡ new w.channel = was ∙ sym same ∙ ap new (sym at_h) in
          subst (λ (a : Awaits). Ends bound (running (is_any a) (not (number_of w.awaits == number_of a)) w.until (deadline now (time_of times a))) (left a)) is
          (still_ends w.awaits w.until (deadline now (time_of times w.awaits)) (ap is_any was ∙ any) (on.0 at_h))

  not_less : {A : Type 0} (m n : ℕ) → n ≤ m → m < n → A
  not_less m n low high = absurd (omega (arith, low, high))

  is_another : (a b : Awaits) → 2 ≤ rank_in b → rank_in b < rank_in a → is_call b ≡ false → IsAnother times (left a) (left b) a b
  is_another a Nothing two low no_call = low_one 0 (omega arith) two
  is_another a Acceptance two low no_call = absurd (true≢false no_call)
  is_another Nothing ResetConfirmation two low no_call = not_less 4 0 (omega arith) low
  is_another Acceptance ResetConfirmation two low no_call = not_less 4 4 (omega arith) low
  is_another ResetConfirmation ResetConfirmation two low no_call = not_less 4 4 (omega arith) low
  is_another ClearConfirmation ResetConfirmation two low no_call = not_less 4 3 (omega arith) low
  is_another InterruptConfirmation ResetConfirmation two low no_call = record { enough = omega arith; some = set.t22; any = refl; differ = refl }
  is_another Nothing ClearConfirmation two low no_call = not_less 3 0 (omega arith) low
  is_another Acceptance ClearConfirmation two low no_call = record { enough = omega arith; some = set.t23; any = refl; differ = refl }
  is_another ResetConfirmation ClearConfirmation two low no_call = record { enough = omega arith; some = set.t23; any = refl; differ = refl }
  is_another ClearConfirmation ClearConfirmation two low no_call = not_less 3 3 (omega arith) low
  is_another InterruptConfirmation ClearConfirmation two low no_call = record { enough = omega arith; some = set.t23; any = refl; differ = refl }
  is_another Nothing InterruptConfirmation two low no_call = not_less 5 0 (omega arith) low
  is_another Acceptance InterruptConfirmation two low no_call = not_less 5 4 (omega arith) low
  is_another ResetConfirmation InterruptConfirmation two low no_call = not_less 5 4 (omega arith) low
  is_another ClearConfirmation InterruptConfirmation two low no_call = not_less 5 3 (omega arith) low
  is_another InterruptConfirmation InterruptConfirmation two low no_call = not_less 5 5 (omega arith) low

  -- another is awaited for it
  waits_fall : (before now : ℕ) (old new : ℕ → Awaits) (g k : ℕ → Option ℕ) (ws : List Wait) → IsAnother times (left (old h)) (left (new h)) (old h) (new h)
      → now + left (old h) ≤ bound → AreAwaited times before old g ws → OnChannel (heeded_waits now new k ws)
  waits_fall before now old new g k [] gone late are = tt
  waits_fall before now old new g k (w ∷ ws) gone late are = (first_wait, waits_fall before now old new g k ws gone late are.1)
    where
      first_wait : w.channel ≡ h → (let x : Wait = wait_after times now (new w.channel) (k w.channel) w in Ends bound x.until (left x.awaits))
      first_wait at_h =
          let b : Awaits = new h in
          let other : (number_of w.awaits == number_of b) ≡ false =
          ap (λ (a : Awaits). number_of a == number_of b) (are.0.awaits ∙ ap old at_h) ∙ gone.differ in
          let enough = gone.enough in
          let more : now + (time_of times b + left b) ≤ bound = omega (arith, late, enough) in
          let until : Bool → Bool → Option ℕ = λ any differs. running any (not differs) w.until (deadline now (time_of times b)) in
          subst (λ (a : Awaits). Ends bound (running (is_any a) (not (number_of w.awaits == number_of a)) w.until (deadline now (time_of times a))) (left a))
          (ap new (sym at_h))
          (subst (λ (x : Bool). Ends bound (until x (number_of w.awaits == number_of b)) (left b)) (sym gone.any)
          (subst (λ (x : Bool). Ends bound (until true x) (left b)) (sym other) (begins_at bound small now (time_of times b) (left b) gone.some more)))

  -- an answer that is awaited leaves time for a restart
  left_some : (a : Awaits) → 2 ≤ rank_in a → times.t20 ≤ left a
  left_some Nothing two = low_one 0 (omega arith) two
  left_some a two = omega arith

  any_of : (a : Awaits) → 2 ≤ rank_in a → is_any a ≡ true
  any_of Nothing two = low_one 0 (omega arith) two
  any_of a two = refl

  -- of a station between these two, of which the link is up, and of its deadlines
  module _ (before now : ℕ) (s next : Station) (high : 2 ≤ rank_of Up s.layer.restarting (awaited s))
      (higher : 2 ≤ rank_of Up next.layer.restarting (awaited next))
      (restart : Option ℕ) (ws : List Wait) (off : s.layer.restarting ≡ false → restart ≡ None)
      (are : AreAwaited times before (λ k. awaited_at (layer_settings c) s.layer k) (λ k. unacknowledged_at (layer_settings c) s.layer k) ws) where
    abbrev Heeded : Bool → Bool → Type 0
    Heeded r noted = IsBy r (running r noted restart (deadline now times.t20))
        (heeded_waits now (λ k. awaited_at (layer_settings c) next.layer k) (λ k. unacknowledged_at (layer_settings c) next.layer k) ws)

    stays_by : (r n : Bool) → n ≡ r → 2 ≤ rank_of Up r (awaited s) → awaited next ≡ awaited s → IsBy r restart ws → Heeded n false
    stays_by true true is two same by = runs_still bound 0 restart (deadline now times.t20) by
    stays_by true false is two same by = absurd (true≢false (sym is))
    stays_by false true is two same by = absurd (true≢false is)
    stays_by false false is two same by = waits_stay before now (λ k. awaited_at (layer_settings c) s.layer k) (λ k. awaited_at (layer_settings c) next.layer k)
        (λ k. unacknowledged_at (layer_settings c) s.layer k) (λ k. unacknowledged_at (layer_settings c) next.layer k) ws same (any_of (awaited s) two) are by

    falls_by : (r n : Bool) → s.layer.restarting ≡ r → 2 ≤ rank_of Up r (awaited s) → 2 ≤ rank_of Up n (awaited next)
        → rank_of Up n (awaited next) < rank_of Up r (awaited s) → is_call (awaited next) ≡ false → InTime r (awaited s) now → Heeded n false
    falls_by true n is two three low no_call late = not_less (rank_of Up n (awaited next)) 2 three low
    falls_by false true is two three low no_call late =
        let some : times.t20 ≤ left (awaited s) = left_some (awaited s) two in
        let more : now + (times.t20 + 0) ≤ bound = omega (arith, late, some) in
        subst (λ (o : Option ℕ). Ends bound (running true false o (deadline now times.t20)) 0) (sym (off is))
        (begins_at bound small now times.t20 0 set.t20 more)
    falls_by false false is two three low no_call late =
        waits_fall before now (λ k. awaited_at (layer_settings c) s.layer k) (λ k. awaited_at (layer_settings c) next.layer k)
        (λ k. unacknowledged_at (layer_settings c) s.layer k) (λ k. unacknowledged_at (layer_settings c) next.layer k) ws
        (is_another (awaited s) (awaited next) three low no_call) late are

    fallen : rank_of Up next.layer.restarting (awaited next) < rank_of Up s.layer.restarting (awaited s) → is_call (awaited next) ≡ false
        → InTime s.layer.restarting (awaited s) now → Heeded next.layer.restarting false
    fallen low no_call late = falls_by s.layer.restarting next.layer.restarting refl high higher low no_call late

    stayed : AwaitsStill c s next h → IsBy s.layer.restarting restart ws → Heeded next.layer.restarting false
    stayed still by = stays_by s.layer.restarting next.layer.restarting still.restarting high still.awaits by

  -- of a station whose link is up, and of deadlines that are true of it
  module _ (before now : ℕ) (s : Station) (high : 2 ≤ rank c s h) (d : Deadlines) (off : s.layer.restarting ≡ false → d.restart ≡ None)
      (are : AreAwaited times before (λ k. awaited_at (layer_settings c) s.layer k) (λ k. unacknowledged_at (layer_settings c) s.layer k) d.waits) where
    up : is_up s.link.phase ≡ true
    up = is_up_high s.link.phase s.layer.restarting (awaited s) high

    up_rank : rank c s h ≡ rank_of Up s.layer.restarting (awaited s)
    up_rank = rank_up s.link.phase s.layer.restarting (awaited s) up

    high_up : 2 ≤ rank_of Up s.layer.restarting (awaited s)
    high_up = subst (λ (n : ℕ). 2 ≤ n) up_rank high

    abbrev Behind : timer.StationEvent → Outcome → Type 0
    Behind event o = IsBy (timer.after s o).layer.restarting (heeded times now (seen_of c s event o) d).restart (heeded times now (seen_of c s event o) d).waits

    -- what a step tells of the link
    noted : (event : timer.StationEvent) (step : Step) → tells_link step.entries ≡ false
        → IsBy step.near.layer.restarting (running step.near.layer.restarting false d.restart (deadline now times.t20))
        (heeded_waits now (λ k. awaited_at (layer_settings c) step.near.layer k) (λ k. unacknowledged_at (layer_settings c) step.near.layer k) d.waits) → Behind event (Did step)
    noted event step quiet by =
        subst (λ (b : Bool). IsBy step.near.layer.restarting (running step.near.layer.restarting b d.restart (deadline now times.t20))
        (heeded_waits now (λ k. awaited_at (layer_settings c) step.near.layer k) (λ k. unacknowledged_at (layer_settings c) step.near.layer k) d.waits)) (sym quiet) by

    higher_up : (next : Station) → 2 ≤ rank c next h → (rank c next h ≡ rank_of Up next.layer.restarting (awaited next))
        × (2 ≤ rank_of Up next.layer.restarting (awaited next))
    higher_up next higher =
        let is : rank c next h ≡ rank_of Up next.layer.restarting (awaited next) =
        rank_up next.link.phase next.layer.restarting (awaited next) (is_up_high next.link.phase next.layer.restarting (awaited next) higher) in
        (is, subst (λ (n : ℕ). 2 ≤ n) is higher)

    -- its rank is lower
    fallen_by : (event : timer.StationEvent) (step : Step) → tells_link step.entries ≡ false → 2 ≤ rank c step.near h → IsNearer c s step.near h
        → InTime s.layer.restarting (awaited s) now → Behind event (Did step)
    fallen_by event step quiet higher nearer late =
        let new = higher_up step.near higher in
        let less : rank_of Up step.near.layer.restarting (awaited step.near) < rank_of Up s.layer.restarting (awaited s) =
        subst (λ (n : ℕ). n < rank_of Up s.layer.restarting (awaited s)) new.0 (subst (λ (n : ℕ). rank c step.near h < n) up_rank nearer.low) in
        noted event step quiet (fallen before now s step.near high_up new.1 d.restart d.waits off are less nearer.no_call late)

    event_by : (event : timer.StationEvent) (o : Outcome) → LeadsOn c s h o → tells o ≡ false → 2 ≤ rank c (timer.after s o) h
        → IsBy s.layer.restarting d.restart d.waits → InTime s.layer.restarting (awaited s) now → Behind event o
    event_by event (Did step) leads quiet higher by late = on (leads quiet)
      where
        on : AwaitsStill c s step.near h ⊎ IsNearer c s step.near h → Behind event (Did step)
        on (inl still) = noted event step quiet (stayed before now s step.near high_up (higher_up step.near higher).1 d.restart d.waits off are still by)
        on (inr nearer) = fallen_by event step quiet higher nearer late
    event_by event (Refused e) leads quiet higher by late = stayed before now s s high_up high_up d.restart d.waits off are
        (record { up = up; restarting = refl; awaits = refl }) by

  -- ---- what is due is asked

  renewed_on_others : (now k : ℕ) (ws : List Wait) → (k == h) ≡ false → OnChannel ws → OnChannel (map (renewed times now k) ws)
  renewed_on_others now k [] other on = tt
  renewed_on_others now k (w ∷ ws) other on = (first_wait, renewed_on_others now k ws other on.1)
    where
      first_wait : (renewed times now k w).channel ≡ h → (let x : Wait = renewed times now k w in Ends bound x.until (left x.awaits))
      first_wait is =
          let at_h : w.channel ≡ h = sym (renewed_channel times now k w) ∙ is in
          let differ : (w.channel == k) ≡ false = not_same (w.channel == k) refl at_h in
          subst (λ (x : Wait). Ends bound x.until (left x.awaits)) (sym (not_renewed times now k w differ)) (on.0 at_h)
        where
          not_same : (b : Bool) → (w.channel == k) ≡ b → w.channel ≡ h → b ≡ false
          not_same false same at_h = refl
          not_same true same at_h = absurd (true≢false (sym (eq-eqb k h (sym (eqb-true w.channel k same) ∙ at_h)) ∙ other))

  -- T25 of a channel leaves what is awaited
  rotated_on : (now k : ℕ) (ws : List Wait) → OnChannel ws → OnChannel (map (rotated times now k) ws)
  rotated_on now k [] on = tt
  rotated_on now k (w ∷ ws) on = (by (not (w.channel == k)), rotated_on now k ws on.1)
    where
      by : (b : Bool)
          → (let x : Wait = if b then w else record {
            channel = w.channel;
            awaits = w.awaits;
            until = w.until;
            unacknowledged = w.unacknowledged;
            rotates = since (is_some w.unacknowledged) now times.t25;
          } in x.channel ≡ h → Ends bound x.until (left x.awaits))
      by true = on.0
      by false = on.0

  -- the rank falls, or LinkDown is told
  abbrev FallsOrTells : Station → Due → Type 0
  FallsOrTells s what = Falls c h s what ⊎ (tells (timer.outcome c s (asks c s what)) ≡ true)

  relinks : Laws → (s : Station) (what : Due) → is_up s.link.phase ≡ true → asked_of c s what ≡ due.Relink → tells (timer.outcome c s (asks c s what)) ≡ true
  relinks laws s what up is =
      let found = laws.relink c s up in
      ap (λ (x : Due). tells (timer.outcome c s (event_for x))) is ∙ ap tells found.1 ∙ ap tells_link found.2.entries

  -- it is asked by a packet, where there is room for one
  sent : Laws → (s : Station) (what it : Due) → is_up s.link.phase ≡ true → what ≡ it → waits s.link.outgoing ≤ 256
      → ((waits s.link.outgoing == 256) ≡ true → asked_of c s it ≡ due.Relink) → (waits s.link.outgoing < 256 → Falls c h s it) → FallsOrTells s what
  sent laws s what it up is few full low = subst (FallsOrTells s) (sym is) (by (room_or_full (waits s.link.outgoing) few))
    where
      by : ((waits s.link.outgoing == 256) ≡ true) ⊎ (waits s.link.outgoing < 256) → FallsOrTells s it
      by (inl is_full) = inr (relinks laws s it up (full is_full))
      by (inr is_low) = inl (low is_low)

  reset : Laws → (s : Station) (what : Due) → rank c s h ≡ 5 → is_up s.link.phase ≡ true → s.layer.restarting ≡ false → is_channel c.channels h ≡ true
      → what ≡ due.Reset h → waits s.link.outgoing ≤ 256 → FallsOrTells s what
  reset laws s what five up ready configured is few = sent laws s what (due.Reset h) up is few (λ full. reset_relinks c s up ready full h configured) (λ low.
      let found = laws.reset c s h five low in
      let four : rank c found.0.near h ≡ 4 = found.2 in
      record {
        step = found.0;
        is = ap (λ (x : Due). timer.outcome c s (event_for x)) (reset_asked c s h (Did found.0) found.1 refl) ∙ found.1;
        low = omega (arith, four, five);
      })

  cleared : Laws → (s : Station) (what : Due) → rank c s h ≡ 4 → is_up s.link.phase ≡ true → s.layer.restarting ≡ false → is_channel c.channels h ≡ true
      → what ≡ due.Clear h → waits s.link.outgoing ≤ 256 → FallsOrTells s what
  cleared laws s what four up ready configured is few = sent laws s what (due.Clear h) up is few (λ full. clear_relinks c s up ready full h configured) (λ low.
      let found = laws.clear c s h four low in
      let three : rank c found.0.near h ≡ 3 = found.2 in
      record {
        step = found.0;
        is = ap (λ (x : Due). timer.outcome c s (event_for x)) (clear_asked c s h (Did found.0) found.1 refl) ∙ found.1;
        low = omega (arith, three, four);
      })

  restarted : Laws → (s : Station) (what : Due) → rank c s h ≡ 3 → is_up s.link.phase ≡ true → s.layer.restarting ≡ false → what ≡ due.Restart h
      → waits s.link.outgoing ≤ 256 → FallsOrTells s what
  restarted laws s what three up ready is few = sent laws s what (due.Restart h) up is few (λ full. restart_relinks c s up ready full h) (λ low.
      let found = laws.restart c s up ready low in
      let two : rank c found.0.near h ≡ 2 = found.2 h in
      record {
        step = found.0;
        is = ap (λ (x : Due). timer.outcome c s (event_for x)) (restart_asked c s h (Did found.0) found.1 refl) ∙ found.1;
        low = omega (arith, two, three);
      })

  asked_falls : Laws → (s : Station) (what : Due) (a : Awaits) → rank c s h ≡ rank_in a → 2 ≤ rank c s h → is_up s.link.phase ≡ true → s.layer.restarting
      ≡ false → asked_for h a ≡ Some what → waits s.link.outgoing ≤ 256 → FallsOrTells s what
  asked_falls laws s what a is high linked ready asked few = by a is asked
    where
      configured : is_channel c.channels h ≡ true
      configured = is_configured s.link.phase (is_channel c.channels h) (awaited_by (s.layer.circuits h))
          (subst (λ (r : Bool). 2 ≤ rank_of s.link.phase r (awaited s)) ready high)

      by : (a : Awaits) → rank c s h ≡ rank_in a → asked_for h a ≡ Some what → FallsOrTells s what
      by Nothing is asked = absurd (none-some what asked)
      by Acceptance is asked = cleared laws s what is linked ready configured (sym (ap or_t1 asked)) few
      by ResetConfirmation is asked = cleared laws s what is linked ready configured (sym (ap or_t1 asked)) few
      by ClearConfirmation is asked = restarted laws s what is linked ready (sym (ap or_t1 asked)) few
      by InterruptConfirmation is asked = reset laws s what is linked ready configured (sym (ap or_t1 asked)) few

  relink_told : Laws → (s : Station) (what : Due) → is_up s.link.phase ≡ true → what ≡ due.Relink → tells (timer.outcome c s (asks c s what)) ≡ false → ⊥
  relink_told laws s what up is quiet = true≢false (sym (relinks laws s what up (ap (asked_of c s) is)) ∙ quiet)

  -- a moment at which what is due is asked
  asked_deed : Laws → (w : Watched) (later : ℕ) (what : Due) → AreTrue c times w → 2 ≤ rank c w.station h → IsFounded (IsAsked later what) w → waits w.station.link.outgoing ≤ 256
      → (let o : Outcome = outcome_of c (IsAsked later what) w in tells o ≡ false → 2 ≤ rank c (timer.after w.station o) h)
      → (let o : Outcome = outcome_of c (IsAsked later what) w in tells o ≡ false) → IsBy w.station.layer.restarting w.deadlines.restart w.deadlines.waits
      → InTime w.station.layer.restarting (awaited w.station) (w.now + later)
      → (let v : Watched = done c times (IsAsked later what) w in IsBy v.station.layer.restarting v.deadlines.restart v.deadlines.waits)
  asked_deed laws w later what true_now high founded few higher quiet by late = on (what_is_asked times now d what founded)
    where
      s : Station
      s = w.station

      d : Deadlines
      d = w.deadlines

      now : ℕ
      now = w.now + later

      e : Deadlines
      e = after_due times now d

      then_true : AreTrue c times (record w { deadlines = e; now = now })
      then_true = due_true c times w later true_now

      event : timer.StationEvent
      event = asks c s what

      o : Outcome
      o = timer.outcome c s event

      goes : IsBy s.layer.restarting e.restart e.waits → Behind now now s high e then_true.restart.off then_true.waits event o
      goes by_then = event_by now now s high e then_true.restart.off then_true.waits event o (laws.back c s h event high) quiet (higher quiet) by_then late

      is_up_now : is_up s.link.phase ≡ true
      is_up_now = is_up_high s.link.phase s.layer.restarting (awaited s) high

      relinked : AsksRelink d e what → (r : Bool) → s.layer.restarting ≡ r → IsBy r d.restart d.waits → IsBy r e.restart e.waits
      relinked asked true is by = absurd (relink_told laws s what is_up_now asked.is quiet)
      relinked asked false is by = subst (λ (ws : List Wait). OnChannel ws) (sym asked.waits) by

      other : (asked : AsksOn times now d e what) → (asked.wait.channel == h) ≡ false → (r : Bool) → IsBy r d.restart d.waits → IsBy r e.restart e.waits
      other asked differ true by = subst (λ (x : Option ℕ). Ends bound x 0) (sym asked.restart) by
      other asked differ false by = subst (λ (ws : List Wait). OnChannel ws) (sym asked.waits) (renewed_on_others now asked.wait.channel d.waits differ by)

      falls : Falls c h s what → Behind now now s high e then_true.restart.off then_true.waits event o
      falls f =
          subst (λ (x : Outcome). Behind now now s high e then_true.restart.off then_true.waits event x) (sym f.is)
          (fallen_by now now s high e then_true.restart.off then_true.waits event f.step is_quiet
          (subst (λ (x : Outcome). 2 ≤ rank c (timer.after s x) h) f.is (higher quiet))
          (nearer (subst (LeadsOn c s h) f.is (laws.back c s h event high) is_quiet)) late)
        where
          is_quiet : tells_link f.step.entries ≡ false
          is_quiet = ap tells (sym f.is) ∙ quiet

          nearer : AwaitsStill c s f.step.near h ⊎ IsNearer c s f.step.near h → IsNearer c s f.step.near h
          nearer (inl still) = let same = still_rank c s f.step.near h high still in let low = f.low in absurd (omega (arith, same, low))
          nearer (inr x) = x

      falls_or_tells : FallsOrTells s what → Behind now now s high e then_true.restart.off then_true.waits event o
      falls_or_tells (inl f) = falls f
      falls_or_tells (inr told) = absurd (true≢false (sym told ∙ quiet))

      itself : (asked : AsksOn times now d e what) → asked.wait.channel ≡ h → (r : Bool) → s.layer.restarting ≡ r → IsBy r d.restart d.waits
          → Behind now now s high e then_true.restart.off then_true.waits event o
      itself asked at_h true is by = goes (subst (λ (r : Bool). IsBy r e.restart e.waits) (sym is)
          (subst (λ (x : Option ℕ). Ends bound x 0) (sym asked.restart) by))
      itself asked at_h false is by =
          let awaits : asked.wait.awaits ≡ awaited s = overdue_is times w.now now (λ k. awaited_at (layer_settings c) s.layer k)
          (λ k. unacknowledged_at (layer_settings c) s.layer k) d.waits asked.wait
          true_now.waits asked.found ∙ ap (λ (k : ℕ). awaited_at (layer_settings c) s.layer k) at_h in
          let asks_it : asked_for h (awaited s) ≡ Some what = sym (ap (λ (k : ℕ). asked_for k asked.wait.awaits) at_h ∙ ap (asked_for h) awaits) ∙ asked.is in
          let same : rank c s h ≡ rank_in (awaited s) = rank_up s.link.phase s.layer.restarting (awaited s) is_up_now
          ∙ ap (λ (r : Bool). rank_of Up r (awaited s)) is in
          falls_or_tells (asked_falls laws s what (awaited s) same high is_up_now is asks_it few)

      on_wait : (asked : AsksOn times now d e what) (b : Bool) → (asked.wait.channel == h) ≡ b
          → Behind now now s high e then_true.restart.off then_true.waits event o
      on_wait asked true is = itself asked (eqb-true asked.wait.channel h is) s.layer.restarting refl by
      on_wait asked false is = goes (other asked is s.layer.restarting by)

      none : AsksNone d e → (r : Bool) → IsBy r d.restart d.waits → IsBy r e.restart e.waits
      none asked true by = subst (λ (x : Option ℕ). Ends bound x 0) (sym asked.restart) by
      none asked false by = subst (λ (ws : List Wait). OnChannel ws) (sym asked.waits) by

      rotates : AsksRotation times now d e what → (r : Bool) → IsBy r d.restart d.waits → IsBy r e.restart e.waits
      rotates asked true by = subst (λ (x : Option ℕ). Ends bound x 0) (sym asked.restart) by
      rotates asked false by = subst (λ (ws : List Wait). OnChannel ws) (sym asked.waits) (rotated_on now asked.channel d.waits by)

      on : WhatIsAsked times now d what e → Behind now now s high e then_true.restart.off then_true.waits event o
      on (inl asked) = goes (none asked s.layer.restarting by)
      on (inr (inl asked)) = goes (relinked asked s.layer.restarting refl by)
      on (inr (inr (inl asked))) = on_wait asked (asked.wait.channel == h) refl
      on (inr (inr (inr asked))) = goes (rotates asked s.layer.restarting by)

  deed_by : Laws → (w : Watched) (deed : Deed) → AreTrue c times w → 2 ≤ rank c w.station h → IsFounded deed w → IsKept w.station
      → tells (outcome_of c deed w) ≡ false → 2
      ≤ rank c (done c times deed w).station h
      → IsBy w.station.layer.restarting w.deadlines.restart w.deadlines.waits → InTime w.station.layer.restarting (awaited w.station) (w.now + later_by deed)
      → (let v : Watched = done c times deed w in IsBy v.station.layer.restarting v.deadlines.restart v.deadlines.waits)
  deed_by laws w (Happens later event) true_now high founded kept quiet higher by late =
      event_by w.now (w.now + later) w.station high w.deadlines true_now.restart.off true_now.waits event (timer.outcome c w.station event)
      (laws.back c w.station h event high) quiet higher by late
  deed_by laws w (IsAsked later what) true_now high founded kept quiet higher by late =
      asked_deed laws w later what true_now high founded kept.few (λ q. higher) quiet by late

  -- ---- deed after deed

  higher_next : (deeds : List Deed) (w : Watched) → AwaitsAll c times h deeds w → 2 ≤ rank c w.station h
  higher_next [] w all = all
  higher_next (deed ∷ deeds) w all = all.0

  all_by : Laws → Keeps → (deeds : List Deed) (w : Watched) → AreTrue c times w → IsKept w.station → AreObeyed c times deeds w → AwaitsAll c times h deeds w
      → w.now ≤ bound
      → IsBy w.station.layer.restarting w.deadlines.restart w.deadlines.waits → (all_done c times deeds w).now ≤ bound
  all_by laws keeps [] w true_now kept obeyed all low by = low
  all_by laws keeps (deed ∷ deeds) w true_now kept obeyed all low by =
      let late : InTime w.station.layer.restarting (awaited w.station) (w.now + later_by deed) = in_time w (w.now + later_by deed) true_now all.0 obeyed.1 by in
      let v : Watched = done c times deed w in
      all_by laws keeps deeds v (deed_true c times w deed true_now) (deed_kept keeps c times w deed kept) obeyed.2 all.2
      (now_in_time w.station.layer.restarting (awaited w.station) (w.now + later_by deed) late)
      (deed_by laws w deed true_now all.0 obeyed.0 kept all.1 (higher_next deeds v all.2) by late)

-- ---- where it begins

module _ (c : Settings) (times : Times) (h : ℕ) (first : Awaits) (set : AreSet times first) where
  first_on : (bound now : ℕ) (few : bound < 2 ^ 64) (f : ℕ → Awaits) (g : ℕ → Option ℕ) (ws : List Wait) → f h ≡ first
      → bound ≡ now + longest_wait times false first → 2 ≤ rank_in first → AreAwaited times now f g ws → OnChannel c times h bound first set few ws
  first_on bound now few f g [] same is high are = tt
  first_on bound now few f g (w ∷ ws) same is high are = (first_wait, first_on bound now few f g ws same is high are.1)
    where
      at : (a : Awaits) → first ≡ a → bound ≡ now + longest_wait times false a → 2 ≤ rank_in a → IsSince now (time_of times a) w.until
          → Ends bound w.until (left c times h bound first set few a)
      at Nothing at_first is high since = low_one 0 (omega arith) high
      at Acceptance at_first is high since = ends_by bound now times.t21 (times.t23 + times.t20) w.until few set.t21 (omega (arith, is)) since
      at ResetConfirmation at_first is high since = ends_by bound now times.t22 (times.t23 + times.t20) w.until few set.t22 (omega (arith, is)) since
      at ClearConfirmation at_first is high since = ends_by bound now times.t23 times.t20 w.until few set.t23 (omega (arith, is)) since
      at InterruptConfirmation at_first is high since =
          ends_by bound now times.t26 (times.t22 + (times.t23 + times.t20)) w.until few (set.t26 at_first) (omega (arith, is)) since

      first_wait : w.channel ≡ h → Ends bound w.until (left c times h bound first set few w.awaits)
      first_wait at_h =
          let here : w.awaits ≡ first = are.0.awaits ∙ ap f at_h ∙ same in
          at w.awaits (sym here) (is ∙ ap (λ (a : Awaits). now + longest_wait times false a) (sym here))
          (subst (λ (a : Awaits). 2 ≤ rank_in a) (sym here) high) are.0.until

  first_by : (bound : ℕ) (w : Watched) (few : bound < 2 ^ 64) (r : Bool) → w.station.layer.restarting ≡ r
      → awaited_at (layer_settings c) w.station.layer h ≡ first → bound ≡ w.now + longest_wait times r first → 2 ≤ rank c w.station h → AreTrue c times w
      → IsBy c times h bound first set few r w.deadlines.restart w.deadlines.waits
  first_by bound w few true is at_first same high true_now = ends_by bound w.now times.t20 0 w.deadlines.restart few set.t20 (omega (arith, same))
      (true_now.restart.on is)
  first_by bound w few false is at_first same high true_now =
      let a : Awaits = awaited_at (layer_settings c) w.station.layer h in
      let up : is_up w.station.link.phase ≡ true = is_up_high w.station.link.phase w.station.layer.restarting a high in
      let two : rank c w.station h ≡ rank_in a = rank_up w.station.link.phase w.station.layer.restarting a up ∙ ap (λ (r : Bool). rank_of Up r a) is in
      first_on bound w.now few (λ k. awaited_at (layer_settings c) w.station.layer k) (λ k. unacknowledged_at (layer_settings c) w.station.layer k)
      w.deadlines.waits at_first same
      (subst (λ (n : ℕ). 2 ≤ n) (two ∙ ap rank_in at_first) high) true_now.waits

pub nothing_waits : ResetLeadsOn → ClearLeadsOn → RestartLeadsOn → RelinkLeadsOn → NothingLeadsBack → Keeps → NothingWaits
nothing_waits reset clear restart relink back keeps c times h moments deeds set small obeyed all =
    let w : Watched = watched c times moments in
    let r : Bool = w.station.layer.restarting in
    let a : Awaits = awaited_at (layer_settings c) w.station.layer h in
    let bound : ℕ = w.now + longest_wait times r a in
    let true_now : AreTrue c times w = deadlines_are_true c times moments in
    all_by c times h bound a set small (record { reset = reset; clear = clear; restart = restart; relink = relink; back = back }) keeps deeds w true_now
    (moments_kept keeps c times moments _ new_kept) obeyed all (omega arith)
    (first_by c times h a set bound w small r refl refl refl (higher_next c times h bound a set small deeds w all) true_now)
