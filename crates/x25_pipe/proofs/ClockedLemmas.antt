-- The pipe heeds a step with the pull behind it, as one who obeys a clock heeds both in turn.
use Rattle.x25_pipe.proofs.Names.{◌≡◌, ◌≤◌, ◌+◌, ℕ, List, ◌++◌, refl, sym, ap, ◌∙◌, arith, PullsAll, Settings, layer_settings}
use Rattle.x25_pipe.proofs.Names.{StationEntry, Station, Outcome, Did, Refused, StationEvent, Due, Times, Deadlines, Seen, heeded, after_due, Act}
use Rattle.std.proofs.Common.{append-nil}
use Rattle.x25_clock.specs.laws.{ClockLaw.{AreTrue, Watched, comes, heeds as heeds_event, seen_of}, PullLaw.{PullIsHeeded, seen_pulled}}
use Rattle.x25_clock.specs.{Clock.{is_heard}, Due.{asked_of, event_for}, laws.WaitLaw.{Happens, IsAsked, all_done}}
use Rattle.x25_frame.specs.Frame.{PlainFrame}
use Rattle.x25_layer.specs.code.FitsLayer.{awaited_at, unacknowledged_at}
use Rattle.x25_pipe.{proofs.Names.{act_of, event_act, pulled_behind}, specs.Timed.{seen_at}}
use Rattle.x25_pipe.specs.laws.ClockedLaw.{watched_in, with_pull, done_with_pull, EventIsDone, DueIsDone}
use Rattle.x25_station.specs.{Pulling.{pulled_of}, Station.Told.{is_at_rest}, Step.{Step, requests}, Timer.{tells_link, timer_pulled}}
use Rattle.x25_station.specs.laws.SettledLaw.{IsSettled, SettledBy, StaysSettled, GoesOn, PullsGoOn}
use Rattle.x25_station.specs.laws.TimerLaw as timer

-- ---- what is seen of a step with its pull

-- by what the pull leads to
abbrev at_both : Settings → Station → StationEvent → Step → Station → List PlainFrame → List StationEntry → Seen
at_both c s event step next out entries = record {
  timer = timer_pulled (timer.timer s event (Did step)) step.near next;
  at_rest = is_at_rest next;
  restarting = next.layer.restarting;
  noted = tells_link entries;
  heard = is_heard (comes event) out entries;
  awaited = λ h. awaited_at (layer_settings c) next.layer h;
  unacknowledged = λ h. unacknowledged_at (layer_settings c) next.layer h;
}

seen_same : (c : Settings) (s : Station) (event : StationEvent) (step : Step) (o : Outcome) → GoesOn c step.near (pulled_of step.near o)
    → at_both c s event step (pulled_behind step o).near (pulled_behind step o).out (pulled_behind step o).entries
    ≡ at_both c s event step (pulled_of step.near o).near (step.out ++ (pulled_of step.near o).out) step.entries
seen_same c s event step (Did p) goes =
    ap (λ (es : List StationEntry). at_both c s event step p.near (step.out ++ p.out) (step.entries ++ es)) goes.told
    ∙ ap (λ (es : List StationEntry). at_both c s event step p.near (step.out ++ p.out) es) (append-nil step.entries)
seen_same c s event step (Refused e) goes =
    ap (λ (out : List PlainFrame). at_both c s event step step.near out step.entries) (sym (append-nil step.out))

next_same : (step : Step) (o : Outcome) → (pulled_behind step o).near ≡ (pulled_of step.near o).near
next_same step (Did p) = refl
next_same step (Refused e) = refl

-- ---- an event, at the deadlines that it finds

module _ (goes : PullsGoOn) (c : Settings) (times : Times) (event : StationEvent) (s : Station) (d : Deadlines) (now : ℕ) where
  abbrev at_found : Station → Seen → Watched
  at_found next seen = record { station = next; deadlines = heeded times now seen d; now = now }

  abbrev acted : Outcome → Watched
  acted o = (let a : Act = act_of c s event o in at_found a.next (seen_at c a))

  did : (step : Step) → IsSettled c step.near → acted (Did step)
      ≡ at_found (pulled_of step.near (requests c step.near PullsAll)).near (seen_pulled c s event step)
  did step settled =
      let o : Outcome = requests c step.near PullsAll in
      ap (λ (t : Station). at_found t (at_both c s event step (pulled_behind step o).near (pulled_behind step o).out (pulled_behind step o).entries)) (next_same step o)
      ∙ ap (λ (x : Seen). at_found (pulled_of step.near o).near x) (seen_same c s event step o (goes c step.near settled))

-- one who obeys does so at that moment, and none later
module _ (goes : PullsGoOn) (stays : StaysSettled) (heeded_so : PullIsHeeded) (c : Settings) (times : Times) (w : Watched) (small : c.window ≤ 7)
    (settled : IsSettled c w.station) (before : ℕ) (past : before ≤ w.now) (so : AreTrue c times (record w { now = before })) where
  abbrev s : Station
  s = w.station

  back : w.now ≡ w.now + 0
  back = omega arith

  happens : (event : StationEvent) → acted goes c times event s w.deadlines w.now (timer.outcome c s event) ≡ done_with_pull c times (Happens 0 event) w
  happens event = by (timer.outcome c s event) refl (stays c s event small settled)
    where
      found : Watched
      found = record w { now = w.now + 0 }

      by : (o : Outcome) → timer.outcome c s event ≡ o → SettledBy c o → acted goes c times event s w.deadlines w.now o
          ≡ done_with_pull c times (Happens 0 event) w
      by (Did step) is h =
          did goes c times event s w.deadlines w.now step h
          ∙ ap (λ (n : ℕ). at_found goes c times event s w.deadlines n (pulled_of step.near (requests c step.near PullsAll)).near (seen_pulled c s event step))
          back
          ∙ heeded_so c times (Happens 0 event) step w before past so h is
          ∙ ap (λ (o : Outcome). all_done c times (with_pull (Happens 0 event) o) w) (sym is)
      by (Refused e) is h =
          ap (λ (n : ℕ). at_found goes c times event s w.deadlines n s (seen_of c s event (Refused e))) back
          ∙ ap (λ (o : Outcome). heeds_event c times (w.now + 0) event o found) (sym is)
          ∙ ap (λ (o : Outcome). all_done c times (with_pull (Happens 0 event) o) w) (sym is)

  asked : (due : Due) → (let event : StationEvent = event_for (asked_of c s due) in
      acted goes c times event s (after_due times w.now w.deadlines) w.now (timer.outcome c s event)) ≡ done_with_pull c times (IsAsked 0 due) w
  asked due = by (timer.outcome c s event) refl (stays c s event small settled)
    where
      event : StationEvent
      event = event_for (asked_of c s due)

      found : Watched
      found = record w { deadlines = after_due times (w.now + 0) w.deadlines; now = w.now + 0 }

      by : (o : Outcome) → timer.outcome c s event ≡ o → SettledBy c o → acted goes c times event s (after_due times w.now w.deadlines) w.now o
          ≡ done_with_pull c times (IsAsked 0 due) w
      by (Did step) is h =
          did goes c times event s (after_due times w.now w.deadlines) w.now step h
          ∙ ap (λ (n : ℕ). at_found goes c times event s (after_due times n w.deadlines) n (pulled_of step.near (requests c step.near PullsAll)).near
          (seen_pulled c s event step)) back
          ∙ heeded_so c times (IsAsked 0 due) step w before past so h is
          ∙ ap (λ (o : Outcome). all_done c times (with_pull (IsAsked 0 due) o) w) (sym is)
      by (Refused e) is h =
          ap (λ (n : ℕ). at_found goes c times event s (after_due times n w.deadlines) n s (seen_of c s event (Refused e))) back
          ∙ ap (λ (o : Outcome). heeds_event c times (w.now + 0) event o found) (sym is)
          ∙ ap (λ (o : Outcome). all_done c times (with_pull (IsAsked 0 due) o) w) (sym is)

pub event_is_done : PullsGoOn → StaysSettled → PullIsHeeded → EventIsDone
unfolding event_act
event_is_done goes stays heeded_so c times event w before small settled past so =
    happens goes stays heeded_so c times (watched_in w) small settled before past so event

pub due_is_done : PullsGoOn → StaysSettled → PullIsHeeded → DueIsDone
unfolding event_act
due_is_done goes stays heeded_so c times due w before small settled past so =
    asked goes stays heeded_so c times (watched_in w) small settled before past so due
