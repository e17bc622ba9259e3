-- What a pipe does with its clock, line by line, as moments of one who has a clock.
use Rattle.x25_pipe.proofs.Names.{◌≡◌, ◌≤◌, ◌+◌, ◌==◌, ℕ, zero, suc, length, List, [], ◌∷◌, ◌++◌, Bool, true, false, if◌then◌else◌, nat_lt, Option, Some, None}
use Rattle.x25_pipe.proofs.Names.{refl, sym, ap, subst, ◌∙◌, arith, PullsAll, Settings, layer_settings, StationEntry, Station, Outcome, Did, Refused}
use Rattle.x25_pipe.proofs.Names.{StationEvent, Due, Times, due_of, after_due, act_of, asked_act, event_act, event_in, nothing_act}
use Rattle.x25_pipe.proofs.Names.{pulled_behind, Timed, TimedTurn, answer_turn, due_first, due_turns, insist_turn, new_timed, time_said, timed_turn}
use Rattle.std.{proofs.Common.{◌-◌}, proofs.lemmas.Bool.{ltb-false, true≢false}, specs.Prelude.{IsSome, is_some}}
use Rattle.x25_circuit.specs.Calling.{SaysReady}
use Rattle.x25_clock.specs.{Clock.{most_due}, Due.{asked_of, event_for}, laws.ClockLaw.{Moment, Happens, IsDue, Watched, heeds as heeds_event, watched_by, watched_from}}
use Rattle.x25_clock.specs.laws.ClockLaw.{AreTrue, DeadlinesAreTrue, TrueStays}
use Rattle.x25_layer.specs.{Calls.{Asks as asks_on, outcome_in}, laws.Rounds.{Refuses, went}}
use Rattle.x25_link.specs.{Link.{alone}, Outgoing.{waits}, Station.{is_up}}
use Rattle.x25_pipe.proofs.{BegunLemmas.{begun_at, both_begun, itself}, Names.{moment_of, timed_turns, told_due}}
use Rattle.x25_pipe.specs.{Timed.{act_turn, begins, pass_turn}, laws.ClockedLaw.{watched_in, with_pull, EventIsDone, PipeIsWatched}}
use Rattle.x25_station.specs.{Command.{Requests}, Config.{link_settings}, Station.{new_station, view_of}, Step.{commands, did, entries_of_outcome}}
use Rattle.x25_station.specs.{declared.error.StationError.{StationError}, laws.SettledLaw.{IsSettled, SettledBy, NewIsSettled, StaysSettled}}
use Rattle.x25_station.specs.laws.TimerLaw.{Asks}
use Rattle.x25_layer.specs.declared.error.LayerError.TheVariants as layer_error
use Rattle.x25_station.specs.declared.error.StationError.TheVariants as station_error
use Rattle.x25_station.specs.laws.TimerLaw as timer
use Rattle.x25_clock.specs.laws.WaitLaw as wait

-- some moments lead from one to the other
record Leads (c : Settings) (times : Times) (w v : Watched) : Type 0 where
  moments : List Moment
  is : watched_from c times moments w ≡ v

module _ (c : Settings) (times : Times) where
  from_both : (a b : List Moment) (w : Watched) → watched_from c times (a ++ b) w ≡ watched_from c times b (watched_from c times a w)
  from_both [] b w = refl
  from_both (m ∷ a) b w = from_both a b (watched_by c times m w)

  leads_on : (u v w : Watched) → Leads c times u v → Leads c times v w → Leads c times u w
  leads_on u v w p q = record {
    moments = p.moments ++ q.moments;
    is = from_both p.moments q.moments u
        ∙ ap (λ (x : Watched). watched_from c times q.moments x) p.is ∙ q.is;
  }

  here : (w : Watched) → Leads c times w w
  here w = record { moments = []; is = refl }

  -- a deed and its pull are two moments
  deeds_lead : (event : StationEvent) (o : Outcome) (w : Watched) → Leads c times w (wait.all_done c times (with_pull (wait.Happens 0 event) o) w)
  deeds_lead event (Did step) w = record { moments = Happens 0 event ∷ Happens 0 (Asks (Requests PullsAll)) ∷ []; is = refl }
  deeds_lead event (Refused e) w = record { moments = Happens 0 event ∷ []; is = refl }

-- ---- a line that asks for nothing is heeded as a command that is refused

abbrev refused_event : StationEvent
refused_event = Asks (Requests (asks_on 0 SaysReady))

record IsRefused (o : Outcome) : Type 0 where
  error : StationError
  is : o ≡ Refused error

never : (c : Settings) (s : Station) → IsRefused (timer.outcome c s refused_event)
never c s = by (is_up s.link.phase) s.layer.restarting
  where
    full : Bool
    full = waits s.link.outgoing == 256

    entries : List StationEntry
    entries = entries_of_outcome (layer_settings c) s.layer (asks_on 0 SaysReady)
        (outcome_in (layer_settings c) full s.layer.restarting s.layer.restarts s.layer.circuits (asks_on 0 SaysReady))

    by : (up busy : Bool) → IsRefused (did c (alone s.link) entries
        (if up then went (view_of (link_settings c) s.turn s.link) (layer_settings c)
        (outcome_in (layer_settings c) full busy s.layer.restarts s.layer.circuits (asks_on 0 SaysReady)) else Refuses layer_error.NotUp))
    by false busy = record { error = station_error.Layer layer_error.NotUp; is = refl }
    by true true = record { error = station_error.Layer layer_error.Restarting; is = refl }
    by true false = record { error = station_error.Layer layer_error.NoSuchChannel; is = refl }

nothing_leads : (c : Settings) (times : Times) (w : Timed) → Leads c times (watched_in w) (watched_in (act_turn c times w (nothing_act w.station)).next)
nothing_leads c times w =
    let now : ℕ = moment_of w.now in
    let no : IsRefused (timer.outcome c w.station refused_event) = never c w.station in
    let back : now + 0 ≡ now = omega arith in
    record {
      moments = Happens 0 refused_event ∷ [];
      is = ap (λ (o : Outcome). heeds_event c times (now + 0) refused_event o (watched_in w)) no.is
          ∙ ap (λ (n : ℕ). heeds_event c times n refused_event (Refused no.error) (watched_in w)) back;
    }

-- ---- the turns

module _ (done : EventIsDone) (stays : StaysSettled) (so : DeadlinesAreTrue) (so_stays : TrueStays) (c : Settings) (times : Times) (small : c.window ≤ 7) where
  leads_true : (w v : Watched) → Leads c times w v → AreTrue c times w → AreTrue c times v
  leads_true w v leads true_now = subst (AreTrue c times) leads.is (so_stays c times leads.moments w true_now)

  reached_true : (v : Watched) → Leads c times (watched_in (new_timed c)) v → AreTrue c times v
  reached_true v leads = leads_true (watched_in (new_timed c)) v leads (so c times [])

  -- what is reached, from a station that is settled to one that is; a time that was said stays so
  record Reaches (w v : Timed) : Type 0 where
    leads : Leads c times (watched_in w) (watched_in v)
    settled : IsSettled c v.station
    said : IsSome w.now → IsSome v.now

  act_settled : (s : Station) (event : StationEvent) (o : Outcome) → SettledBy c o → IsSettled c s → IsSettled c (act_of c s event o).next
  act_settled s event (Refused e) h before = before
  act_settled s event (Did step) h before = by (commands c step.near (Requests PullsAll)) (stays c step.near (Asks (Requests PullsAll)) small h)
    where
      by : (o : Outcome) → SettledBy c o → IsSettled c (pulled_behind step o).near
      by (Did pulls) after = after
      by (Refused e) after = h

  event_settled : (s : Station) (event : StationEvent) → IsSettled c s → IsSettled c (event_act c s event).next
  unfolding event_act
  event_settled s event h = act_settled s event (timer.outcome c s event) (stays c s event small h) h

  event_reaches : (w : Timed) (event : StationEvent) → IsSettled c w.station → AreTrue c times (watched_in w)
      → Reaches w (act_turn c times w (event_act c w.station event)).next
  event_reaches w event h true_now = record {
    leads = subst (Leads c times (watched_in w)) (sym (done c times event w (moment_of w.now) small h (omega arith) true_now))
        (deeds_lead c times event (timer.outcome c w.station event) (watched_in w));
    settled = event_settled w.station event h;
    said = λ said. said;
  }

  on : (u v w : Timed) → Leads c times (watched_in u) (watched_in v) → (IsSome u.now → IsSome v.now) → Reaches v w → Reaches u w
  on u v w p said q = record {
    leads = leads_on c times (watched_in u) (watched_in v) (watched_in w) p q.leads;
    settled = q.settled;
    said = λ s. q.said (said s);
  }

  told_leads : (w : Timed) → Leads c times (watched_in w) (watched_in (told_due times w))
  told_leads w =
      let now : ℕ = moment_of w.now in
      let back : now + 0 ≡ now = omega arith in
      record {
        moments = IsDue 0 ∷ [];
        is = ap
            (λ (n : ℕ). let v : Watched = record { station = w.station; deadlines = after_due times n w.deadlines; now = n } in v) back;
      }

  -- what is asked behind what was told as due
  first_reaches : (n : ℕ) (w : Timed) (o : Option Due)
      → ((u : Timed) → IsSettled c u.station → AreTrue c times (watched_in u) → Reaches u (due_turns c times n u).next) → IsSettled c w.station
      → AreTrue c times (watched_in (told_due times w)) → Reaches (told_due times w) (due_first c times (due_turns c times n) w o).next
  first_reaches n w None rest h true_now = record { leads = here c times (watched_in (told_due times w)); settled = h; said = λ s. s }
  first_reaches n w (Some what) rest h true_now =
      let v : Timed = told_due times w in
      let u : Timed = (insist_turn c times what v).next in
      let asked : Reaches v u = event_reaches v (event_for (asked_of c v.station what)) h true_now in
      on v u (due_turns c times n u).next asked.leads asked.said (rest u asked.settled (leads_true (watched_in v) (watched_in u) asked.leads true_now))

  all_reach : (n : ℕ) (w : Timed) → IsSettled c w.station → AreTrue c times (watched_in w) → Reaches w (due_turns c times n w).next
  unfolding due_turns
  all_reach zero w h true_now = record { leads = here c times (watched_in w); settled = h; said = λ s. s }
  all_reach (suc n) w h true_now = on w (told_due times w) (due_turns c times (suc n) w).next (told_leads w) (λ s. s)
      (first_reaches n w (due_of (moment_of w.now) w.deadlines) (all_reach n) h
      (leads_true (watched_in w) (watched_in (told_due times w)) (told_leads w) true_now))

  -- the time passes to one that is said
  passes : (w : Timed) (now : ℕ) → moment_of w.now ≤ now → Leads c times (watched_in w) (watched_in (told_due times (record w { now = Some now })))
  passes w now low =
      let last : ℕ = moment_of w.now in
      let there : last + (now - last) ≡ now = omega (arith, low) in
      record {
        moments = IsDue (now - last) ∷ [];
        is = ap (λ (n : ℕ). let v : Watched = record { station = w.station; deadlines = after_due times n w.deadlines; now = n } in v) there;
      }

  time_reaches : (w : Timed) (now : ℕ) → moment_of w.now ≤ now → IsSettled c w.station → AreTrue c times (watched_in w)
      → Reaches w (due_turns c times (most_due w.deadlines) (record w { now = Some now })).next
  unfolding due_turns
  time_reaches w now low h true_now =
      let v : Timed = record w { now = Some now } in
      let rest : ℕ = 2 + (length w.deadlines.waits + length w.deadlines.waits) in
      let more : suc rest ≡ most_due w.deadlines = omega arith in
      subst (λ (n : ℕ). Reaches w (due_turns c times n v).next) more
      (on w (told_due times v) (due_turns c times (suc rest) v).next (passes w now low) (λ s. refl)
      (first_reaches rest v (due_of now w.deadlines) (all_reach rest) h
      (leads_true (watched_in w) (watched_in (told_due times v)) (passes w now low) true_now)))

  -- ---- from a station that never was up; before a time is said, also by a clock that begins then

  record Reached (v : Timed) : Type 0 where
    leads : Leads c times (watched_in (new_timed c)) (watched_in v)
    settled : IsSettled c v.station
    before : (IsSome v.now → ⊥) → (now : ℕ) → Leads c times (watched_in (new_timed c)) (begun_at c times now v.station)

  leads_begun : (w : Timed) (event : StationEvent) (now : ℕ) → IsSettled c w.station
      → Leads c times (watched_in (new_timed c)) (begun_at c times now w.station)
      → Leads c times (watched_in (new_timed c)) (begun_at c times now (event_act c w.station event).next)
  leads_begun w event now h before =
      let o : Outcome = timer.outcome c w.station event in
      let x : Watched = begun_at c times now w.station in
      let y : Watched = wait.all_done c times (with_pull (wait.Happens 0 event) o) x in
      let is : watched_in (act_turn c times (begins c times now w) (event_act c w.station event)).next ≡ y =
      done c times event (begins c times now w) now small h (omega arith) (reached_true x before) in
      let near : y.station ≡ (event_act c w.station event).next = sym (ap (λ (z : Watched). z.station) is) in
      let begun : y ≡ begun_at c times now (event_act c w.station event).next =
      itself c times now y (both_begun c times now event o x (record { near = w.station; is = refl })) ∙ ap (begun_at c times now) near in
      subst (Leads c times (watched_in (new_timed c))) begun
      (leads_on c times (watched_in (new_timed c)) x y before (deeds_lead c times event o x))

  asked_reached : (w : Timed) (o : Option StationEvent) → Reached w → Reached (act_turn c times w (asked_act c w.station o)).next
  asked_reached w None r = record {
    leads = leads_on c times (watched_in (new_timed c)) (watched_in w) (watched_in (act_turn c times w (nothing_act w.station)).next) r.leads
        (nothing_leads c times w);
    settled = r.settled;
    before = r.before;
  }
  asked_reached w (Some event) r =
      let v : Timed = (act_turn c times w (event_act c w.station event)).next in
      let rest : Reaches w v = event_reaches w event r.settled (reached_true (watched_in w) r.leads) in
      record {
        leads = leads_on c times (watched_in (new_timed c)) (watched_in w) (watched_in v) r.leads rest.leads;
        settled = rest.settled;
        before = λ none now. leads_begun w event now r.settled (r.before none now);
      }

  pass_reached : (now : ℕ) (w : Timed) (o : Option ℕ) → w.now ≡ o → Reached w → Reached (pass_turn c times now w o).next
  pass_reached now w None is r = record {
    leads = r.before (λ some. true≢false (sym some ∙ ap is_some is)) now;
    settled = r.settled;
    before = λ none. absurd (none refl);
  }
  pass_reached now w (Some last) is r = by (nat_lt now last) refl
    where
      by : (b : Bool) → nat_lt now last ≡ b
          → Reached (let t : TimedTurn = if b then act_turn c times w (nothing_act w.station)
          else due_turns c times (most_due w.deadlines) (record w { now = Some now }) in t.next)
      by true less = asked_reached w None r
      by false less =
          let low : moment_of w.now ≤ now = subst (λ (o : Option ℕ). moment_of o ≤ now) (sym is) (ltb-false now last less) in
          let v : Timed = (due_turns c times (most_due w.deadlines) (record w { now = Some now })).next in
          let rest : Reaches w v = time_reaches w now low r.settled (reached_true (watched_in w) r.leads) in
          record {
            leads = leads_on c times (watched_in (new_timed c)) (watched_in w) (watched_in v) r.leads rest.leads;
            settled = rest.settled;
            before = λ none. absurd (none (rest.said (ap is_some is)));
          }

  answer_reached : (line : List ℕ) (w : Timed) (o : Option ℕ) → Reached w → Reached (answer_turn c times line w o).next
  answer_reached line w None r = asked_reached w (event_in c.wide c.role line) r
  answer_reached line w (Some now) r = pass_reached now w w.now refl r

  lines_reach : (lines : List (List ℕ)) (w : Timed) → Reached w → Reached (timed_turns c times lines w).next
  unfolding timed_turns timed_turn
  lines_reach [] w r = r
  lines_reach (line ∷ lines) w r = lines_reach lines (timed_turn c times line w).next (answer_reached line w (time_said line) r)

  -- a command that is refused has a clock begin beside a new station
  new_reached : IsSettled c new_station → Reached (new_timed c)
  new_reached h = record {
    leads = here c times (watched_in (new_timed c));
    settled = h;
    before = λ none now.
        let no : IsRefused (timer.outcome c new_station refused_event) = never c new_station in
        let there : 0 + now ≡ now = omega arith in
        record {
          moments = Happens now refused_event ∷ [];
          is = ap (λ (o : Outcome). heeds_event c times (0 + now) refused_event o (watched_in (new_timed c))) no.is
              ∙ ap (λ (n : ℕ). heeds_event c times n refused_event (Refused no.error) (watched_in (new_timed c))) there;
        };
  }

pub pipe_is_watched : EventIsDone → NewIsSettled → StaysSettled → DeadlinesAreTrue → TrueStays → PipeIsWatched
pipe_is_watched done new stays so so_stays c times lines small =
    let all = (lines_reach done stays so so_stays c times small lines (new_timed c) (new_reached done stays so so_stays c times small (new c))).leads in
    (all.moments, all.is)
