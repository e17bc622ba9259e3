-- What a program with a clock plays, as deeds of one who obeys a clock.
use Rattle.std.proofs.Common.{◌≡◌, ◌∙◌, ◌≤◌, ◌+◌, ◌-◌, ◌==◌, ℕ, zero, suc, nat_lt, Bool, true, false, ◌||◌, if◌then◌else◌, List, [], ◌∷◌, ◌++◌, Option, Some}
use Rattle.std.proofs.Common.{None}
use Rattle.std.proofs.Common.{ap, refl, sym, subst, arith}
use Rattle.std.{proofs.lemmas.{Bool.{ltb-false, true≢false}, List.Folds.{list_any-append}}, specs.List.{list_any}, specs.Prelude.{IsSome, is_some}}
use Rattle.x25_circuit.specs.{Calling.{SaysReady}, declared.awaits.Awaits.{Awaits}}
use Rattle.x25_clock.specs.Clock.{Deadlines, after_due, due_of, most_due}
use Rattle.x25_clock.specs.{Due.{asked_of, event_for}, declared.due.Due.{Due}, declared.times.Times.{Times}}
use Rattle.x25_clock.specs.laws.ClockLaw.{AreTrue, DeadlinesAreTrue, Moment, IsDue, Watched, heeds, seen_of, watched, watched_by, watched_from}
use Rattle.x25_clock.specs.laws.AnswerLaw as answer
use Rattle.x25_clock.specs.laws.ClockLaw as clock
use Rattle.x25_clock.specs.laws.PullLaw.{pull}
use Rattle.x25_clock.specs.laws.SilenceLaw as silence
use Rattle.x25_clock.specs.laws.SilenceLaw.{IsQuiet}
use Rattle.x25_clock.specs.laws.WaitLaw as wait
use Rattle.x25_clock.specs.laws.AnswerLaw.{answers}
use Rattle.x25_clock.specs.laws.WaitLaw.{AreObeyed, Deed, Happens, IsAsked, IsFounded, all_done, done, event_of, later_by, outcome_of, tells}
use Rattle.x25_joined.proofs.NotPast.{AreNotPast, all_stand, heeded_stands, next_stands, none_due, told_stands}
use Rattle.x25_joined.proofs.PullPhase.{pull_phase}
use Rattle.x25_joined.proofs.PlayedReads.{told_entries, told_of}
use Rattle.x25_joined.specs.laws.Joined.{entries_in}
use Rattle.x25_joined.specs.laws.Obeyed.{AreInTime, IsInTime, IsQuietAt, IsSilent, IsUntold, watched_at}
use Rattle.x25_joined.specs.laws.Played.{Answers, Insists, Marks, Passes, Play, Played, answer_plays, asked_by, due_plays, first_due, line_plays, lines_plays}
use Rattle.x25_joined.specs.laws.Played.{pass_plays, playing, timed_entries, told}
use Rattle.x25_layer.specs.{Calls.{Asks as asks_on, PullsAll, outcome_in}, code.FitsLayer.{awaited_at, unacknowledged_at}, laws.Rounds.{Refuses, went}}
use Rattle.x25_layer.specs.declared.error.LayerError.TheVariants as layer_error
use Rattle.x25_link.specs.declared.phase.Phase.{Phase}
use Rattle.x25_link.specs.{Link.{alone}, Outgoing.{waits}, Station.{is_up}}
use Rattle.x25_pipe.specs.Pipe.{asked_act, event_act, event_in, nothing_act, entries_told, pulled_behind, with_pulls}
unfoldable use Rattle.x25_pipe.specs.Timed.{due_turns, timed_turn, timed_turns}
use Rattle.x25_pipe.specs.Timed.{Timed, TimedTurn, act_turn, answer_turn, due_first, insist_turn, moment_of, pass_turn, time_said, told_due}
use Rattle.x25_pipe.specs.laws.ClockedLaw.{DueIsDone, EventIsDone, watched_in, with_pull}
use Rattle.x25_station.specs.{Command.{Requests}, Config.{Settings, layer_settings, link_settings}, Entry.{StationEntry}, Station.{Station, view_of}}
use Rattle.x25_station.specs.Entry.{link_up, link_down, of_channel, was_restarted, restart_confirmed}
use Rattle.x25_station.specs.{Pulling.{pulled_of}, Step.{Step, Outcome, Did, Refused, commands, did, entries_of_outcome}, Timer.{is_of_link, tells_link}}
use Rattle.x25_station.specs.declared.error.StationError.{StationError}
use Rattle.x25_station.specs.declared.error.StationError.TheVariants as station_error
use Rattle.x25_station.specs.laws.{EndLaw.{is_answered_on}, SettledLaw.{IsSettled, SettledBy, StaysSettled, PullsGoOn}, TimerLaw.{StationEvent, Asks}}
use Rattle.x25_station.specs.laws.TimerLaw as timer

-- ---- a line that asks for nothing is heeded as a command that is refused

abbrev pub refused_event : StationEvent
refused_event = Asks (Requests (asks_on 0 SaysReady))

pub record IsRefused (o : Outcome) : Type 0 where
  pub error : StationError
  pub is : o ≡ Refused error

pub never : (c : Settings) (s : Station) → IsRefused (timer.outcome c s refused_event)
never c s = by (is_up s.link.phase) s.layer.restarting
  where
    full : Bool
    full = waits s.link.outgoing == 256

    entries : List StationEntry
    entries = entries_of_outcome (layer_settings c) s.layer (asks_on 0 SaysReady)
        (outcome_in (layer_settings c) full s.layer.restarting s.layer.restarts s.layer.circuits (asks_on 0 SaysReady))

    by : (up busy : Bool) → IsRefused (did c (alone s.link) entries
        (if up then went (view_of (link_settings c) s.turn s.link) (layer_settings c)
        (outcome_in (layer_settings c) full busy s.layer.restarts s.layer.circuits (asks_on 0 SaysReady)) else Refuses layer_error.NotUp))
    by false busy = record { error = station_error.Layer layer_error.NotUp; is = refl }
    by true true = record { error = station_error.Layer layer_error.Restarting; is = refl }
    by true false = record { error = station_error.Layer layer_error.NoSuchChannel; is = refl }

-- ---- what is written tells no answer

any_first : {X : Type 0} (p : X → Bool) (xs ys : List X) → list_any p (xs ++ ys) ≡ false → list_any p xs ≡ false
any_first p xs ys none = by (list_any p xs) refl (sym (list_any-append p xs ys) ∙ none)
  where
    by : (b : Bool) → list_any p xs ≡ b → (b || list_any p ys) ≡ false → list_any p xs ≡ false
    by true is h = absurd (true≢false h)
    by false is h = is

-- LinkUp and LinkDown are answers too
no_link : (h : ℕ) (a : Awaits) (es : List StationEntry) → list_any (is_answered_on h a) es ≡ false → tells_link es ≡ false
no_link h a [] none = refl
no_link h a (link_up ∷ es) none = absurd (true≢false none)
no_link h a (link_down reason ∷ es) none = absurd (true≢false none)
no_link h a (was_restarted cause diagnostic ∷ es) none = absurd (true≢false none)
no_link h a (restart_confirmed ∷ es) none = absurd (true≢false none)
no_link h a (of_channel e ∷ es) none = by (is_answered_on h a (of_channel e)) none (no_link h a es)
  where
    by : (b : Bool) → (b || list_any (is_answered_on h a) es) ≡ false → (list_any (is_answered_on h a) es ≡ false → tells_link es ≡ false)
        → tells_link es ≡ false
    by true none rest = absurd (true≢false none)
    by false none rest = rest none
no_link h a (other ∷ es) none = no_link h a es none

tells_first : (xs ys : List StationEntry) → tells_link (xs ++ ys) ≡ false → tells_link xs ≡ false
tells_first [] ys none = refl
tells_first (x ∷ xs) ys none = by (is_of_link x) none (tells_first xs ys)
  where
    by : (b : Bool) → (b || tells_link (xs ++ ys)) ≡ false → (tells_link (xs ++ ys) ≡ false → tells_link xs ≡ false) → (b || tells_link xs) ≡ false
    by true none rest = absurd (true≢false none)
    by false none rest = rest none

module _ (c : Settings) (Quiet : List StationEntry → Type 0) (first : (xs ys : List StationEntry) → Quiet (xs ++ ys) → Quiet xs) where
  -- the entries of a step are among those that are said of it
  step_first : (step : Step) → Quiet (entries_told (with_pulls c (Did step))) → Quiet step.entries
  step_first step none = by (commands c step.near (Requests PullsAll)) none
    where
      by : (pulls : Outcome) → Quiet (pulled_behind step pulls).entries → Quiet step.entries
      by (Did more) none = first step.entries more.entries none
      by (Refused e) none = none

-- ---- deeds, as moments

abbrev moments_of : Settings → Deed → Station → List Moment
moments_of c (Happens later event) s = clock.Happens later event ∷ []
moments_of c (IsAsked later due) s = IsDue later ∷ clock.Happens 0 (event_for (asked_of c s due)) ∷ []

abbrev moments_for : Settings → Times → List Deed → Watched → List Moment
moments_for c times [] x = []
moments_for c times (deed ∷ deeds) x = moments_of c deed x.station ++ moments_for c times deeds (done c times deed x)

module _ (c : Settings) (times : Times) where
  from_both : (a b : List Moment) (w : Watched) → watched_from c times (a ++ b) w ≡ watched_from c times b (watched_from c times a w)
  from_both [] b w = refl
  from_both (m ∷ a) b w = from_both a b (watched_by c times m w)

  one_watched : (deed : Deed) (x : Watched) → watched_from c times (moments_of c deed x.station) x ≡ done c times deed x
  one_watched (Happens later event) x = refl
  one_watched (IsAsked later due) x =
      let found : Watched = record x { deadlines = after_due times (x.now + later) x.deadlines; now = x.now + later } in
      let event : StationEvent = event_for (asked_of c x.station due) in
      let same : x.now + later + 0 ≡ x.now + later = omega arith in
      ap (λ (now : ℕ). heeds c times now event (timer.outcome c x.station event) found) same

  all_watched : (deeds : List Deed) (x : Watched) → watched_from c times (moments_for c times deeds x) x ≡ all_done c times deeds x
  all_watched [] x = refl
  all_watched (deed ∷ deeds) x =
      let rest : List Moment = moments_for c times deeds (done c times deed x) in
      from_both (moments_of c deed x.station) rest x ∙ ap (watched_from c times rest) (one_watched deed x) ∙ all_watched deeds (done c times deed x)

  pub done_append : (xs ys : List Deed) (x : Watched) → all_done c times (xs ++ ys) x ≡ all_done c times ys (all_done c times xs x)
  done_append [] ys x = refl
  done_append (deed ∷ xs) ys x = done_append xs ys (done c times deed x)

  pub obeyed_append : (xs ys : List Deed) (x : Watched) → AreObeyed c times xs x → AreObeyed c times ys (all_done c times xs x) → AreObeyed c times (xs ++ ys) x
  obeyed_append [] ys x a b = b
  obeyed_append (deed ∷ xs) ys x a b = (a.0, a.1, obeyed_append xs ys (done c times deed x) a.2 b)

  pub silent_append : (phase : Phase) (xs ys : List Deed) (x : Watched) → silence.IsSilent c times phase xs x
      → silence.IsSilent c times phase ys (all_done c times xs x) → silence.IsSilent c times phase (xs ++ ys) x
  silent_append phase [] ys x a b = b
  silent_append phase (deed ∷ xs) ys x a b = (a.0, a.1, a.2, silent_append phase xs ys (done c times deed x) a.3 b)

  pub untold_append : (h : ℕ) (xs ys : List Deed) (x : Watched) → answer.IsUntold c times h xs x → answer.IsUntold c times h ys (all_done c times xs x)
      → answer.IsUntold c times h (xs ++ ys) x
  untold_append h [] ys x a b = b
  untold_append h (deed ∷ xs) ys x a b = (a.0, a.1, untold_append h xs ys (done c times deed x) a.2 b)

-- ---- where a program stands

module _ (stays : StaysSettled) (goes : PullsGoOn) (done_so : EventIsDone) (due_so : DueIsDone) (so : DeadlinesAreTrue) (c : Settings) (times : Times)
    (small : c.window ≤ 7) where
  -- behind some moments, the last of them at a time; no deadline is past at the time that was said last
  pub record StandsSince (since : ℕ) (w : Timed) : Type 0 where
    pub moments : List Moment
    pub is : watched c times moments ≡ watched_at since w
    pub settled : IsSettled c w.station
    pub said : IsSome w.now
    pub not_past : AreNotPast (moment_of w.now) w.deadlines
    pub past : since ≤ moment_of w.now

  -- so the deadlines are true there
  true_at : (n : ℕ) (w : Timed) → StandsSince n w → AreTrue c times (watched_at n w)
  true_at n w s = subst (AreTrue c times) s.is (so c times s.moments)

  -- what is played is deeds, which lead there
  pub record Does (ps : List Played) (n : ℕ) (w v : Timed) : Type 0 where
    pub deeds : List Deed
    pub obeyed : AreObeyed c times deeds (watched_at n w)
    pub since : ℕ
    pub leads : all_done c times deeds (watched_at n w) ≡ watched_at since v
    pub stands : StandsSince since v
    pub untold : (h : ℕ) → IsUntold c h ps → answer.IsUntold c times h deeds (watched_at n w)
    pub begins : (phase : Phase) → IsSilent c phase ps → v.station.link.phase ≡ phase → w.station.link.phase ≡ phase
    pub silent : (phase : Phase) → IsSilent c phase ps → v.station.link.phase ≡ phase → silence.IsSilent c times phase deeds (watched_at n w)

  untold_parts : (h : ℕ) (ps qs : List Played) → IsUntold c h (ps ++ qs) → IsUntold c h ps × IsUntold c h qs
  untold_parts h [] qs u = (tt, u)
  untold_parts h (p ∷ ps) qs u = let rest = untold_parts h ps qs u.1 in ((u.0, rest.0), rest.1)

  silent_parts : (phase : Phase) (ps qs : List Played) → IsSilent c phase (ps ++ qs) → IsSilent c phase ps × IsSilent c phase qs
  silent_parts phase [] qs u = (tt, u)
  silent_parts phase (p ∷ ps) qs u = let rest = silent_parts phase ps qs u.3 in ((u.0, u.1, u.2, rest.0), rest.1)

  pub join : (ps qs : List Played) (n : ℕ) (u w v : Timed) (a : Does ps n u w) → Does qs a.since w v → Does (ps ++ qs) n u v
  join ps qs n u w v a b = record {
    deeds = a.deeds ++ b.deeds;
    obeyed = obeyed_append c times a.deeds b.deeds (watched_at n u) a.obeyed (subst (AreObeyed c times b.deeds) (sym a.leads) b.obeyed);
    since = b.since;
    leads = done_append c times a.deeds b.deeds (watched_at n u) ∙ ap (all_done c times b.deeds) a.leads ∙ b.leads;
    stands = b.stands;
    untold = λ h none. let both = untold_parts h ps qs none in
        untold_append c times h a.deeds b.deeds (watched_at n u) (a.untold h both.0)
        (subst (answer.IsUntold c times h b.deeds) (sym a.leads) (b.untold h both.1));
    begins = λ phase quiet end. let both = silent_parts phase ps qs quiet in a.begins phase both.0 (b.begins phase both.1 end);
    silent = λ phase quiet end. let both = silent_parts phase ps qs quiet in
        silent_append c times phase a.deeds b.deeds (watched_at n u) (a.silent phase both.0 (b.begins phase both.1 end))
        (subst (silence.IsSilent c times phase b.deeds) (sym a.leads) (b.silent phase both.1 end));
  }

  -- ---- a deed and its pull

  done_near : (deed : Deed) (x : Watched) → (done c times deed x).station ≡ timer.after x.station (outcome_of c deed x)
  done_near (Happens later event) x = refl
  done_near (IsAsked later due) x = refl

  done_settled : (deed : Deed) (x : Watched) → IsSettled c x.station → IsSettled c (done c times deed x).station
  done_settled deed x h = subst (IsSettled c) (sym (done_near deed x)) (by (outcome_of c deed x) (stays c x.station (event_of c deed x.station) small h))
    where
      by : (o : Outcome) → SettledBy c o → IsSettled c (timer.after x.station o)
      by (Did step) after = after
      by (Refused e) after = h

  found_stands : (deed : Deed) (x : Watched) → AreNotPast (x.now + later_by deed) x.deadlines
      → AreNotPast (x.now + later_by deed) (wait.found_by times deed x).deadlines
  found_stands (Happens later event) x h = h
  found_stands (IsAsked later due) x h = told_stands (x.now + later) times x.deadlines h

  done_stands : (deed : Deed) (x : Watched) → AreNotPast (x.now + later_by deed) x.deadlines
      → AreNotPast (x.now + later_by deed) (done c times deed x).deadlines
  done_stands deed x h =
      heeded_stands (x.now + later_by deed) times (seen_of c (wait.found_by times deed x).station (event_of c deed x.station) (outcome_of c deed x))
      (wait.found_by times deed x).deadlines
      (found_stands deed x h)

  now_zero : (m : ℕ) (d : Deadlines) → AreNotPast m d → AreNotPast (m + 0) d
  now_zero m d h = let same : m ≡ m + 0 = omega arith in subst (λ (n : ℕ). AreNotPast n d) same h

  -- where both lead
  record BothDone (deed : Deed) (x : Watched) (o : Outcome) : Type 0 where
    obeyed : AreObeyed c times (with_pull deed o) x
    settled : IsSettled c (all_done c times (with_pull deed o) x).station
    stands : AreNotPast (x.now + later_by deed) (all_done c times (with_pull deed o) x).deadlines
    now : (all_done c times (with_pull deed o) x).now ≡ x.now + later_by deed

  both_done : (deed : Deed) (x : Watched) (o : Outcome) → IsFounded deed x → AreNotPast (x.now + later_by deed) x.deadlines → IsSettled c x.station
      → BothDone deed x o
  both_done deed x (Refused e) founded stands settled = record {
    obeyed = (founded, next_stands (x.now + later_by deed) x.deadlines stands, tt);
    settled = done_settled deed x settled;
    stands = done_stands deed x stands;
    now = refl;
  }
  both_done deed x (Did step) founded stands settled =
      let y : Watched = done c times deed x in
      let at : AreNotPast (y.now + 0) y.deadlines = now_zero y.now y.deadlines (done_stands deed x stands) in
      let same : y.now + 0 ≡ x.now + later_by deed = omega arith in
      record {
        obeyed = (founded, next_stands (x.now + later_by deed) x.deadlines stands, (tt, next_stands (y.now + 0) y.deadlines at, tt));
        settled = done_settled pull y (done_settled deed x settled);
        stands = subst (λ (n : ℕ). AreNotPast n (done c times pull y).deadlines) same (done_stands pull y at);
        now = same;
      }

  pull_quiet : (s : Station) (h : ℕ) → IsSettled c s
      → (tells (commands c s (Requests PullsAll)) ≡ false) × (answers c h s (commands c s (Requests PullsAll)) ≡ false)
  pull_quiet s h settled = by (commands c s (Requests PullsAll)) refl
    where
      by : (o : Outcome) → commands c s (Requests PullsAll) ≡ o → (tells o ≡ false) × (answers c h s o ≡ false)
      by (Refused e) is = (refl, refl)
      by (Did pulls) is =
          let none : pulls.entries ≡ [] = sym (ap (λ (o : Outcome). (pulled_of s o).entries) is) ∙ (goes c s settled).told in
          (ap tells_link none, ap (list_any (is_answered_on h (awaited_at (layer_settings c) s.layer h))) none)

  both_untold : (deed : Deed) (x : Watched) (h : ℕ) (o : Outcome) → outcome_of c deed x ≡ o → SettledBy c o
      → list_any (is_answered_on h (awaited_at (layer_settings c) x.station.layer h)) (entries_told (with_pulls c o)) ≡ false
      → answer.IsUntold c times h (with_pull deed o) x
  both_untold deed x h (Refused e) is settled none = (ap tells is, ap (answers c h x.station) is, tt)
  both_untold deed x h (Did step) is settled none =
      let a : Awaits = awaited_at (layer_settings c) x.station.layer h in
      let y : Watched = done c times deed x in
      let near : y.station ≡ step.near = done_near deed x ∙ ap (timer.after x.station) is in
      let own : list_any (is_answered_on h a) step.entries ≡ false =
      step_first c (λ es. list_any (is_answered_on h a) es ≡ false) (any_first (is_answered_on h a)) step none in
      let quiet = pull_quiet step.near h settled in (
        ap tells is ∙ no_link h a step.entries own,
        ap (answers c h x.station) is ∙ own,
        (
          ap (λ (s : Station). tells (commands c s (Requests PullsAll))) near ∙ quiet.0,
          ap (λ (s : Station). answers c h s (commands c s (Requests PullsAll))) near ∙ quiet.1,
          tt,
        ),
      )

  -- what is known of a silent link as a deed is done
  pub record IsSilentBy (deed : Deed) (s : Station) (o : Outcome) (phase : Phase) : Type 0 where
    pub at : s.link.phase ≡ phase
    pub quiet : IsQuiet c s (event_of c deed s)
    pub told : tells_link (entries_told (with_pulls c o)) ≡ false

  both_silent : (deed : Deed) (x : Watched) (phase : Phase) (o : Outcome) → outcome_of c deed x ≡ o → SettledBy c o → IsSilentBy deed x.station o phase
      → (all_done c times (with_pull deed o) x).station.link.phase ≡ phase → silence.IsSilent c times phase (with_pull deed o) x
  both_silent deed x phase (Refused e) is settled k end = (k.at, k.quiet, ap tells is, end)
  both_silent deed x phase (Did step) is settled k end =
      let y : Watched = done c times deed x in
      let near : y.station ≡ step.near = done_near deed x ∙ ap (timer.after x.station) is in
      let mid : y.station.link.phase ≡ phase =
      sym (pull_phase c y.station) ∙ ap (λ (s : Station). s.link.phase) (sym (done_near pull y)) ∙ end in (
        k.at,
        k.quiet,
        ap tells is ∙ step_first c (λ es. tells_link es ≡ false) tells_first step k.told,
        (mid, tt, ap (λ (s : Station). tells (commands c s (Requests PullsAll))) near ∙ (pull_quiet step.near 0 settled).0, end),
      )

  deed_does : (ps : List Played) (n : ℕ) (w v : Timed) (deed : Deed) (o : Outcome) → StandsSince n w → outcome_of c deed (watched_at n w) ≡ o
      → n + later_by deed ≡ moment_of w.now → w.now ≡ v.now → IsFounded deed (watched_at n w)
      → all_done c times (with_pull deed o) (watched_at n w) ≡ watched_at (moment_of v.now) v
      → ((h : ℕ) → IsUntold c h ps → list_any (is_answered_on h (awaited_at (layer_settings c) w.station.layer h)) (entries_told (with_pulls c o)) ≡ false)
      → ((phase : Phase) → IsSilent c phase ps → IsSilentBy deed w.station o phase) → Does ps n w v
  deed_does ps n w v deed o s is later same founded leads none silent =
      let x : Watched = watched_at n w in
      let deeds : List Deed = with_pull deed o in
      let both = both_done deed x o founded (subst (λ (m : ℕ). AreNotPast m w.deadlines) (sym later) s.not_past) s.settled in
      record {
        deeds = deeds;
        obeyed = both.obeyed;
        since = moment_of v.now;
        leads = leads;
        stands = record {
          moments = s.moments ++ moments_for c times deeds x;
          is = from_both c times s.moments (moments_for c times deeds x) (watched c times [])
              ∙ ap (watched_from c times (moments_for c times deeds x)) s.is
              ∙ all_watched c times deeds x ∙ leads;
          settled = subst (λ (y : Watched). IsSettled c y.station) leads both.settled;
          said = subst IsSome same s.said;
          not_past = subst (λ (m : ℕ). AreNotPast m v.deadlines) (later ∙ ap moment_of same)
              (subst (λ (y : Watched). AreNotPast (n + later_by deed) y.deadlines) leads both.stands);
          past = omega arith;
        };
        untold = λ h u. both_untold deed x h o is (subst (SettledBy c) is (stays c w.station (event_of c deed w.station) small s.settled)) (none h u);
        begins = λ phase u end. (silent phase u).at;
        silent = λ phase u end. both_silent deed x phase o is (subst (SettledBy c) is (stays c w.station (event_of c deed w.station) small s.settled))
            (silent phase u) (ap (λ (y : Watched). y.station.link.phase) leads ∙ end);
      }

  pulled_same : (o : Outcome) (a b : Deed) (x y : Watched) → done c times a x ≡ done c times b y
      → all_done c times (with_pull a o) x ≡ all_done c times (with_pull b o) y
  pulled_same (Did step) a b x y same = ap (all_done c times (pull ∷ [])) same
  pulled_same (Refused e) a b x y same = same

  -- ---- an event of a line, and what asks for nothing

  said_is : (s : Station) (event : StationEvent) → entries_in (event_act c s event).sayings ≡ entries_told (with_pulls c (timer.outcome c s event))
  unfolding event_act
  said_is s event = told_of c (with_pulls c (timer.outcome c s event))

  acted_does : (play : Play) (n : ℕ) (w : Timed) (o : Option StationEvent) → asked_by c play ≡ o → StandsSince n w
      → Does (playing w play ∷ []) n w (act_turn c times w (asked_act c w.station o)).next
  acted_does play n w (Some event) asks s =
      let k : ℕ = moment_of w.now - n in
      let v : Timed = (act_turn c times w (event_act c w.station event)).next in
      let o : Outcome = timer.outcome c w.station event in
      let past : n ≤ moment_of w.now = s.past in
      let later : n + k ≡ moment_of w.now = omega (arith, past) in
      let there : n + k ≡ moment_of w.now + 0 = omega (arith, past) in
      let x : Watched = watched_at n w in
      let said : timed_entries (told c (playing w play)) ≡ entries_told (with_pulls c o) =
      told_entries c w play ∙ ap (λ (e : Option StationEvent). entries_in (asked_act c w.station e).sayings) asks ∙ said_is w.station event in
      deed_does (playing w play ∷ []) n w v (Happens k event) o s refl later refl tt
      (pulled_same o (Happens k event) (Happens 0 event) x (watched_in w) (ap (λ (m : ℕ). heeds c times m event o x) there)
      ∙ sym (done_so c times event w n small s.settled s.past (true_at n w s)))
      (λ h u. ap (list_any (is_answered_on h (awaited_at (layer_settings c) w.station.layer h))) (sym said) ∙ u.0)
      (λ phase u. record {
        at = u.0;
        quiet = subst (IsQuietAt c w.station) asks u.1;
        told = ap tells_link (sym said) ∙ u.2;
      })
  acted_does play n w None asks s =
      let k : ℕ = moment_of w.now - n in
      let v : Timed = (act_turn c times w (nothing_act w.station)).next in
      let no : IsRefused (timer.outcome c w.station refused_event) = never c w.station in
      let past : n ≤ moment_of w.now = s.past in
      let later : n + k ≡ moment_of w.now = omega (arith, past) in
      let x : Watched = watched_at n w in
      deed_does (playing w play ∷ []) n w v (Happens k refused_event) (Refused no.error) s no.is later refl tt
      (ap (λ (o : Outcome). heeds c times (n + k) refused_event o x) no.is ∙ ap (λ (m : ℕ). heeds c times m refused_event (Refused no.error) x) later)
      (λ h u. refl)
      (λ phase u. record { at = u.0; quiet = tt; told = refl })

  -- ---- what is due

  insist_does : (n : ℕ) (w : Timed) (due : Due) → due_of (moment_of w.now) w.deadlines ≡ Some due → StandsSince n w
      → Does (playing (told_due times w) (Insists due (asked_of c w.station due)) ∷ []) n w (insist_turn c times due (told_due times w)).next
  insist_does n w due is s =
      let k : ℕ = moment_of w.now - n in
      let event : StationEvent = event_for (asked_of c w.station due) in
      let v : Timed = (insist_turn c times due (told_due times w)).next in
      let o : Outcome = timer.outcome c w.station event in
      let past : n ≤ moment_of w.now = s.past in
      let later : n + k ≡ moment_of w.now = omega (arith, past) in
      let there : n + k ≡ moment_of w.now + 0 = omega (arith, past) in
      let x : Watched = watched_at n w in
      let said : timed_entries (told c (playing (told_due times w) (Insists due (asked_of c w.station due)))) ≡ entries_told (with_pulls c o) =
      told_entries c (told_due times w) (Insists due (asked_of c w.station due)) ∙ said_is w.station event in
      deed_does (playing (told_due times w) (Insists due (asked_of c w.station due)) ∷ []) n w v (IsAsked k due) o s refl later refl
      (ap (λ (m : ℕ). due_of m w.deadlines) later ∙ is)
      (pulled_same o (IsAsked k due) (IsAsked 0 due) x (watched_in w)
      (ap (λ (m : ℕ). let y : Watched = record { station = w.station; deadlines = after_due times m w.deadlines; now = m } in heeds c times m event o y) there)
      ∙ sym (due_so c times due w n small s.settled s.past (true_at n w s)))
      (λ h u. ap (list_any (is_answered_on h (awaited_at (layer_settings c) w.station.layer h))) (sym said) ∙ u.0)
      (λ phase u. record { at = u.0; quiet = u.1; told = ap tells_link (sym said) ∙ u.2 })

  -- nothing is played, and the time passes or not
  none_does : (ps : List Played) (n : ℕ) (w v : Timed) → w.station ≡ v.station → w.deadlines ≡ v.deadlines → moment_of w.now ≤ moment_of v.now → IsSome v.now
      → AreNotPast (moment_of v.now) v.deadlines → StandsSince n w → Does ps n w v
  none_does ps n w v station deadlines later said stands s =
      let past : n ≤ moment_of w.now = s.past in
      let same : watched_at n w ≡ watched_at n v =
      ap (λ (t : Station). let y : Watched = record { station = t; deadlines = w.deadlines; now = n } in y) station
      ∙ ap (λ (d : Deadlines). let y : Watched = record { station = v.station; deadlines = d; now = n } in y) deadlines in
      record {
        deeds = [];
        obeyed = tt;
        since = n;
        leads = same;
        stands = record {
          moments = s.moments;
          is = s.is ∙ same;
          settled = subst (IsSettled c) station s.settled;
          said = said;
          not_past = stands;
          past = omega (arith, past, later);
        };
        untold = λ h u. tt;
        begins = λ phase u end. ap (λ (t : Station). t.link.phase) station ∙ end;
        silent = λ phase u end. ap (λ (t : Station). t.link.phase) station ∙ end;
      }

  first_does : (m n : ℕ) (w : Timed) (o : Option Due) → due_of (moment_of w.now) w.deadlines ≡ o
      → ((k : ℕ) (u : Timed) → StandsSince k u → Does (due_plays c times m u) k u (due_turns c times m u).next)
      → StandsSince n w
      → Does (first_due c times (due_plays c times m) w o) n w (due_first c times (due_turns c times m) w o).next
  first_does m n w None is rest s =
      let truth = true_at n w s in
      let whole = none_due times (moment_of w.now) n (λ h. awaited_at (layer_settings c) w.station.layer h)
      (λ h. unacknowledged_at (layer_settings c) w.station.layer h) w.deadlines truth.waits is in
      none_does [] n w (told_due times w) refl (sym whole.same) (omega arith) s.said
      (subst (AreNotPast (moment_of w.now)) (sym whole.same) s.not_past) s
  first_does m n w (Some due) is rest s =
      let u : Timed = (insist_turn c times due (told_due times w)).next in
      let first = insist_does n w due is s in
      join (playing (told_due times w) (Insists due (asked_of c w.station due)) ∷ []) (due_plays c times m u) n w u (due_turns c times m u).next first
      (rest first.since u first.stands)

  due_does : (m n : ℕ) (w : Timed) → StandsSince n w → Does (due_plays c times m w) n w (due_turns c times m w).next
  unfolding due_turns
  due_does zero n w s = none_does [] n w w refl refl (omega arith) s.said s.not_past s
  due_does (suc m) n w s = first_does m n w (due_of (moment_of w.now) w.deadlines) refl (λ k u t. due_does m k u t) s

  -- ---- lines

  pass_does : (now n : ℕ) (w : Timed) (o : Option ℕ) → w.now ≡ o → IsInTime w (Some now) → StandsSince n w
      → Does (pass_plays c times now w o) n w (pass_turn c times now w o).next
  pass_does now n w None is in_time s = absurd (true≢false (sym s.said ∙ ap is_some is))
  pass_does now n w (Some last) is in_time s = by (nat_lt now last) refl
    where
      at_now : Timed
      at_now = record w { now = Some now }

      by : (b : Bool) → nat_lt now last ≡ b
          → Does (let ps : List Played = if b then playing w Passes ∷ [] else due_plays c times (most_due w.deadlines) at_now in ps) n w
          (let t : TimedTurn = if b then act_turn c times w (nothing_act w.station) else due_turns c times (most_due w.deadlines) at_now in t.next)
      by true less = acted_does Passes n w None refl s
      by false less =
          let later : moment_of w.now ≤ now = subst (λ (o : Option ℕ). moment_of o ≤ now) (sym is) (ltb-false now last less) in
          let first = none_does [] n w at_now refl refl later refl (all_stand now w.deadlines in_time) s in
          join [] (due_plays c times (most_due w.deadlines) at_now) n w at_now (due_turns c times (most_due w.deadlines) at_now).next first
          (due_does (most_due w.deadlines) first.since at_now first.stands)

  answer_does : (line : List ℕ) (n : ℕ) (w : Timed) (o : Option ℕ) → IsInTime w o → StandsSince n w
      → Does (answer_plays c times line w o) n w (answer_turn c times line w o).next
  answer_does line n w None in_time s = acted_does (Answers line) n w (event_in c.wide c.role line) refl s
  answer_does line n w (Some now) in_time s = pass_does now n w w.now refl in_time s

  line_does : (line : List ℕ) (n : ℕ) (w : Timed) → IsInTime w (time_said line) → StandsSince n w
      → Does (line_plays c times line w) n w (timed_turn c times line w).next
  unfolding timed_turn
  line_does line n w in_time s =
      let ps : List Played = answer_plays c times line w (time_said line) in
      let v : Timed = (answer_turn c times line w (time_said line)).next in
      let first = answer_does line n w (time_said line) in_time s in
      join ps (playing v Marks ∷ []) n w v v first (none_does (playing v Marks ∷ []) first.since v v refl refl (omega arith) first.stands.said first.stands.not_past first.stands)

  pub lines_do : (lines : List (List ℕ)) (n : ℕ) (w : Timed) → AreInTime c times lines w → StandsSince n w
      → Does (lines_plays c times lines w) n w (timed_turns c times lines w).next
  unfolding timed_turns
  lines_do [] n w in_time s = none_does [] n w w refl refl (omega arith) s.said s.not_past s
  lines_do (line ∷ lines) n w in_time s =
      let v : Timed = (timed_turn c times line w).next in
      let ps : List Played = line_plays c times line w in
      let first = line_does line n w in_time.0 s in
      join ps (lines_plays c times lines v) n w v (timed_turns c times lines v).next first (lines_do lines first.since v in_time.1 first.stands)
