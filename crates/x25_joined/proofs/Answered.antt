-- That a program with a clock obeys it, and writes the answer in time.
use Rattle.std.proofs.Common.{◌≡◌, ◌∙◌, ◌≤◌, ◌<◌, ◌+◌, ◌-◌, ◌^◌, ℕ, zero, suc, nat_lt, Bool, true, false, if◌then◌else◌, List, [], ◌∷◌, ◌++◌, Option, Some}
use Rattle.std.proofs.Common.{None}
use Rattle.std.proofs.Common.{ap, refl, sym, subst, arith, append-nil, append_assoc}
use Rattle.std.proofs.lemmas.Bool.{ltb-false}
use Rattle.x25_clock.specs.{Clock.{due_of, most_due, next_of}, declared.due.Due.{Due}, declared.times.Times.{Times}}
use Rattle.x25_clock.specs.laws.ClockLaw.{AreTrue, DeadlinesAreTrue, Moment, IsDue, Watched, watched, watched_by, watched_from}
use Rattle.x25_clock.specs.laws.AnswerLaw as answer
use Rattle.x25_clock.specs.laws.ClockLaw as clock
use Rattle.x25_clock.specs.laws.AnswerLaw.{answers, AnswerIsTold}
use Rattle.x25_clock.specs.laws.SilenceLaw as silence
use Rattle.x25_clock.specs.laws.SilenceLaw.{SilenceEnds, longest_silence}
use Rattle.x25_clock.specs.laws.WaitLaw.{AreObeyed, AreSet, Deed, Happens, IsNotPast, all_done, longest_wait, tells}
use Rattle.x25_joined.proofs.Deeds.{Does, IsRefused, StandsSince, lines_do, never, obeyed_append, refused_event, silent_append, untold_append, done_append}
use Rattle.x25_joined.proofs.NotPast.{AreNotPast, heeded_stands, next_stands, none_awaited, none_due}
use Rattle.x25_joined.specs.laws.Obeyed.{AnswerIsWritten, AreInTime, ClockIsObeyed, IsSilent, IsUntold, Obeys, SilenceIsWritten, after, watched_at}
use Rattle.x25_joined.specs.laws.Played.{Played, lines_plays}
use Rattle.x25_link.specs.declared.phase.Phase.{Phase}
use Rattle.x25_circuit.specs.declared.awaits.Awaits.{Awaits}
use Rattle.x25_layer.specs.code.FitsLayer.{awaited_at, unacknowledged_at}
use Rattle.x25_pipe.specs.Pipe.{asked_act, event_in, nothing_act}
unfoldable use Rattle.x25_pipe.specs.Timed.{due_turns, timed_turn, timed_turns}
use Rattle.x25_pipe.specs.Timed.{Timed, TimedTurn, act_turn, answer_turn, due_first, insist_turn, moment_of, new_timed, pass_turn, seen_at, time_said, told_due}
use Rattle.std.specs.Prelude.{IsSome, is_some}
use Rattle.x25_pipe.specs.laws.ClockedLaw.{DueIsDone, EventIsDone, NothingIsDue, PipeIsWatched, watched_in}
use Rattle.x25_station.specs.{Config.{Settings, layer_settings}, Step.{Outcome, Did, Refused}, Timer.{runs}}
use Rattle.x25_station.specs.laws.{SettledLaw.{IsSettled, NewIsSettled, SettledBy, StaysSettled, PullsGoOn}, UnheardLaw.{MayAsk}, WayOutLaw.{rank}}
use Rattle.x25_station.specs.laws.TimerLaw as timer

module _ (new : NewIsSettled) (stays : StaysSettled) (goes : PullsGoOn) (done_so : EventIsDone) (due_so : DueIsDone) (none_so : NothingIsDue)
    (watched_so : PipeIsWatched) (so : DeadlinesAreTrue) (c : Settings) (times : Times) (small : c.window ≤ 7) where
  -- ---- after any lines

  from_settled : (moments : List Moment) (x : Watched) → IsSettled c x.station → IsSettled c (watched_from c times moments x).station
  from_settled [] x h = h
  from_settled (IsDue later ∷ moments) x h = from_settled moments (watched_by c times (IsDue later) x) h
  from_settled (clock.Happens later event ∷ moments) x h =
      from_settled moments (watched_by c times (clock.Happens later event) x)
      (by (timer.outcome c x.station event) (stays c x.station event small h))
    where
      by : (o : Outcome) → SettledBy c o → IsSettled c (timer.after x.station o)
      by (Did step) behind = behind
      by (Refused e) behind = h

  both_turns : (a b : List (List ℕ)) (w : Timed) → (timed_turns c times (a ++ b) w).next ≡ (timed_turns c times b (timed_turns c times a w).next).next
  unfolding timed_turns
  both_turns [] b w = refl
  both_turns (line ∷ a) b w = both_turns a b (timed_turn c times line w).next

  first_now : (m : ℕ) (w : Timed) (o : Option Due) → ((u : Timed) → (due_turns c times m u).next.now ≡ u.now)
      → (due_first c times (due_turns c times m) w o).next.now ≡ w.now
  first_now m w None rest = refl
  first_now m w (Some due) rest = rest (insist_turn c times due (told_due times w)).next

  due_now : (m : ℕ) (w : Timed) → (due_turns c times m w).next.now ≡ w.now
  unfolding due_turns
  due_now zero w = refl
  due_now (suc m) w = first_now m w (due_of (moment_of w.now) w.deadlines) (due_now m)

  truth_after : (lines : List (List ℕ)) → AreTrue c times (watched_in (after c times lines))
  truth_after lines = let at = watched_so c times lines small in subst (AreTrue c times) at.1 (so c times at.0)

  due_now_is : (m now : ℕ) (w : Timed) → (due_turns c times m (record w { now = Some now })).next.now ≡ Some now
  due_now_is m now w = due_now m (record w { now = Some now })

  line_stands : (lines : List (List ℕ)) (line : List ℕ) → (let w : Timed = after c times lines in AreNotPast (moment_of w.now) w.deadlines)
      → (let v : Timed = (timed_turn c times line (after c times lines)).next in AreNotPast (moment_of v.now) v.deadlines)
  unfolding timed_turns timed_turn
  line_stands lines line stands = by (time_said line) refl
    where
      w : Timed
      w = after c times lines

      same : after c times (lines ++ line ∷ []) ≡ (timed_turn c times line w).next
      same = both_turns lines (line ∷ []) (new_timed c)

      truth : AreTrue c times (watched_in (timed_turn c times line w).next)
      truth = subst (λ (v : Timed). AreTrue c times (watched_in v)) same (truth_after (lines ++ line ∷ []))

      none : (now : ℕ) → time_said line ≡ Some now → moment_of w.now ≤ now → AreNotPast now (timed_turn c times line w).next.deadlines
      none now said later =
          let v : Timed = (timed_turn c times line w).next in
          (none_due times now (moment_of v.now) (λ h. awaited_at (layer_settings c) v.station.layer h)
          (λ h. unacknowledged_at (layer_settings c) v.station.layer h) v.deadlines truth.waits
          (none_so c times lines line now said later)).stand

      passed : (now : ℕ) (o : Option ℕ) → w.now ≡ o → (moment_of w.now ≤ now → AreNotPast now (pass_turn c times now w o).next.deadlines)
          → (let v : Timed = (pass_turn c times now w o).next in AreNotPast (moment_of v.now) v.deadlines)
      passed now None is found = found (subst (λ (o : Option ℕ). moment_of o ≤ now) (sym is) (omega arith))
      passed now (Some last) is found = at_time (nat_lt now last) refl found
        where
          at_time : (b : Bool) → nat_lt now last ≡ b
              → (moment_of w.now ≤ now → AreNotPast now (let t : TimedTurn = if b then act_turn c times w (nothing_act w.station)
              else due_turns c times (most_due w.deadlines) (record w { now = Some now }) in t.next.deadlines))
              → (let t : TimedTurn = if b then act_turn c times w (nothing_act w.station)
              else due_turns c times (most_due w.deadlines) (record w { now = Some now }) in AreNotPast (moment_of t.next.now) t.next.deadlines)
          at_time true less later = heeded_stands (moment_of w.now) times (seen_at c (nothing_act w.station)) w.deadlines stands
          at_time false less later =
              let u : Timed = (due_turns c times (most_due w.deadlines) (record w { now = Some now })).next in
              subst (λ (o : Option ℕ). AreNotPast (moment_of o) u.deadlines) (sym (due_now_is (most_due w.deadlines) now w))
              (later (subst (λ (o : Option ℕ). moment_of o ≤ now) (sym is) (ltb-false now last less)))

      by : (o : Option ℕ) → time_said line ≡ o
          → (let v : Timed = (answer_turn c times line w o).next in AreNotPast (moment_of v.now) v.deadlines)
      by None is = heeded_stands (moment_of w.now) times (seen_at c (asked_act c w.station (event_in c.wide c.role line))) w.deadlines stands
      by (Some now) is = passed now w.now refl
          (λ later. subst (λ (o : Option ℕ). AreNotPast now (answer_turn c times line w o).next.deadlines) is (none now is later))

  more_stand : (lines more : List (List ℕ)) → (let w : Timed = after c times lines in AreNotPast (moment_of w.now) w.deadlines)
      → (let v : Timed = after c times (lines ++ more) in AreNotPast (moment_of v.now) v.deadlines)
  unfolding timed_turns
  more_stand lines [] stands =
      subst (λ (l : List (List ℕ)). let v : Timed = after c times l in AreNotPast (moment_of v.now) v.deadlines) (sym (append-nil lines)) stands
  more_stand lines (line ∷ more) stands =
      subst (λ (l : List (List ℕ)). let v : Timed = after c times l in AreNotPast (moment_of v.now) v.deadlines) (append_assoc lines (line ∷ []) more)
      (more_stand (lines ++ line ∷ []) more
      (subst (λ (v : Timed). AreNotPast (moment_of v.now) v.deadlines) (sym (both_turns lines (line ∷ []) (new_timed c))) (line_stands lines line stands)))

  stands_after : (lines : List (List ℕ)) → (let w : Timed = after c times lines in
      IsSome w.now → StandsSince stays goes done_so due_so so c times small (moment_of w.now) w)
  unfolding timed_turns
  stands_after lines said =
      let w : Timed = after c times lines in
      let at = watched_so c times lines small in
      record {
        moments = at.0;
        is = at.1;
        settled = subst (λ (x : Watched). IsSettled c x.station) at.1 (from_settled at.0 (watched c times []) (new c));
        said = said;
        not_past = more_stand [] lines (none_awaited c.channels.count);
        past = omega arith;
      }

  lines_does : (lines more : List (List ℕ)) → (let w : Timed = after c times lines in IsSome w.now → AreInTime c times more w
      → Does stays goes done_so due_so so c times small (lines_plays c times more w) (moment_of w.now) w (timed_turns c times more w).next)
  lines_does lines more said in_time = let w : Timed = after c times lines in
      lines_do stays goes done_so due_so so c times small more (moment_of w.now) w in_time (stands_after lines said)

  -- ---- the laws

  obeys : (lines more : List (List ℕ)) → (let w : Timed = after c times lines in IsSome w.now → AreInTime c times more w
      → Obeys c times (moment_of w.now) w (timed_turns c times more w).next)
  obeys lines more said in_time =
      let v : Timed = (timed_turns c times more (after c times lines)).next in
      let d = lines_does lines more said in_time in
      record {
        deeds = d.deeds;
        obeyed = d.obeyed;
        since = d.since;
        leads = d.leads;
        in_time = d.stands.past;
        not_past = next_stands (moment_of v.now) v.deadlines d.stands.not_past;
      }

  -- a command that is refused takes the time up to the end
  last_untold : (h k : ℕ) (x : Watched) → answer.IsUntold c times h (Happens k refused_event ∷ []) x
  last_untold h k x =
      let no : IsRefused (timer.outcome c x.station refused_event) = never c x.station in
      (ap tells no.is, ap (answers c h x.station) no.is, tt)

  last_silent : (phase : Phase) (k : ℕ) (x : Watched) → x.station.link.phase ≡ phase → silence.IsSilent c times phase (Happens k refused_event ∷ []) x
  last_silent phase k x at =
      let no : IsRefused (timer.outcome c x.station refused_event) = never c x.station in
      (at, tt, ap tells no.is, ap (λ (o : Outcome). (timer.after x.station o).link.phase) no.is ∙ at)

  -- the deeds and that
  record UpToNow (w v : Timed) (deeds : List Deed) (since : ℕ) : Type 0 where
    obeyed : AreObeyed c times (deeds ++ Happens (moment_of v.now - since) refused_event ∷ []) (watched_at (moment_of w.now) w)
    now : (all_done c times (deeds ++ Happens (moment_of v.now - since) refused_event ∷ []) (watched_at (moment_of w.now) w)).now ≡ moment_of v.now

  up_to_now : (ps : List Played) (w v : Timed) (d : Does stays goes done_so due_so so c times small ps (moment_of w.now) w v) → UpToNow w v d.deeds d.since
  up_to_now ps w v d =
      let past : d.since ≤ moment_of v.now = d.stands.past in
      let k : ℕ = moment_of v.now - d.since in
      let there : d.since + k ≡ moment_of v.now = omega (arith, past) in
      let last : Deed = Happens k refused_event in
      let x : Watched = watched_at (moment_of w.now) w in
      let end : AreObeyed c times (last ∷ []) (watched_at d.since v) =
      (tt, subst (λ (n : ℕ). IsNotPast n (next_of v.deadlines)) (sym there) (next_stands (moment_of v.now) v.deadlines d.stands.not_past), tt) in
      record {
        obeyed = obeyed_append c times d.deeds (last ∷ []) x d.obeyed (subst (AreObeyed c times (last ∷ [])) (sym d.leads) end);
        now = ap (λ (z : Watched). z.now) (done_append c times d.deeds (last ∷ []) x ∙ ap (all_done c times (last ∷ [])) d.leads) ∙ there;
      }

  written : AnswerIsTold → (h : ℕ) (lines more : List (List ℕ)) → (let w : Timed = after c times lines in
      let awaits : Awaits = awaited_at (layer_settings c) w.station.layer h in
      let longest : ℕ = longest_wait times w.station.layer.restarting awaits in
      AreSet times awaits → IsSome w.now → moment_of w.now + longest < 2 ^ 64 → 2 ≤ rank c w.station h → AreInTime c times more w
      → IsUntold c h (lines_plays c times more w) → moment_of (timed_turns c times more w).next.now ≤ moment_of w.now + longest)
  written law h lines more set said fits ranks in_time untold =
      let w : Timed = after c times lines in
      let v : Timed = (timed_turns c times more w).next in
      let d = lines_does lines more said in_time in
      let all = up_to_now (lines_plays c times more w) w v d in
      let last : Deed = Happens (moment_of v.now - d.since) refused_event in
      let x : Watched = watched_at (moment_of w.now) w in
      let deeds : List Deed = d.deeds ++ last ∷ [] in
      let none : answer.IsUntold c times h deeds x =
      untold_append c times h d.deeds (last ∷ []) x (d.untold h untold)
      (subst (answer.IsUntold c times h (last ∷ [])) (sym d.leads) (last_untold h (moment_of v.now - d.since) (watched_at d.since v))) in
      let at = watched_so c times lines small in
      let bound : (all_done c times deeds x).now ≤ moment_of w.now
      + longest_wait times w.station.layer.restarting (awaited_at (layer_settings c) w.station.layer h) =
      subst (λ (z : Watched). AreSet times (awaited_at (layer_settings c) z.station.layer h)
      → z.now + longest_wait times z.station.layer.restarting (awaited_at (layer_settings c) z.station.layer h) < 2 ^ 64
      → 2 ≤ rank c z.station h → AreObeyed c times deeds z → answer.IsUntold c times h deeds z
      → (all_done c times deeds z).now ≤ z.now + longest_wait times z.station.layer.restarting (awaited_at (layer_settings c) z.station.layer h))
      at.1 (law c times h at.0 deeds) set fits ranks all.obeyed none in
      let now : (all_done c times deeds x).now ≡ moment_of v.now = all.now in
      omega (arith, bound, now)

  silent : SilenceEnds → (phase : Phase) (lines more : List (List ℕ)) → (let w : Timed = after c times lines in
      let v : Timed = (timed_turns c times more w).next in
      let longest : ℕ = longest_silence times c.retries (runs w.station) in
      MayAsk phase → 1 ≤ c.window → 0 < times.t1 → 0 < times.t3 → IsSome w.now → moment_of w.now + longest < 2 ^ 64 → AreInTime c times more w
      → IsSilent c phase (lines_plays c times more w) → v.station.link.phase ≡ phase → moment_of v.now ≤ moment_of w.now + longest)
  silent law phase lines more asks window t1 t3 said fits in_time quiet at_end =
      let w : Timed = after c times lines in
      let v : Timed = (timed_turns c times more w).next in
      let d = lines_does lines more said in_time in
      let all = up_to_now (lines_plays c times more w) w v d in
      let last : Deed = Happens (moment_of v.now - d.since) refused_event in
      let x : Watched = watched_at (moment_of w.now) w in
      let deeds : List Deed = d.deeds ++ last ∷ [] in
      let none : silence.IsSilent c times phase deeds x =
      silent_append c times phase d.deeds (last ∷ []) x (d.silent phase quiet at_end)
      (subst (silence.IsSilent c times phase (last ∷ [])) (sym d.leads) (last_silent phase (moment_of v.now - d.since) (watched_at d.since v) at_end)) in
      let at = watched_so c times lines small in
      let bound : (all_done c times deeds x).now ≤ moment_of w.now + longest_silence times c.retries (runs w.station) =
      subst (λ (z : Watched). z.now + longest_silence times c.retries (runs z.station) < 2 ^ 64 → AreObeyed c times deeds z
      → silence.IsSilent c times phase deeds z → (all_done c times deeds z).now ≤ z.now + longest_silence times c.retries (runs z.station))
      at.1 (law c times phase at.0 deeds asks window small t1 t3) fits all.obeyed none in
      let now : (all_done c times deeds x).now ≡ moment_of v.now = all.now in
      omega (arith, bound, now)

pub clock_is_obeyed : NewIsSettled → StaysSettled → PullsGoOn → EventIsDone → DueIsDone → NothingIsDue → PipeIsWatched → DeadlinesAreTrue → ClockIsObeyed
clock_is_obeyed new stays goes done_so due_so none_so watched_so so c times now lines more small is in_time =
    let w : Timed = after c times lines in
    subst (λ (o : Option ℕ). Obeys c times (moment_of o) w (timed_turns c times more w).next) is
    (obeys new stays goes done_so due_so none_so watched_so so c times small lines more (ap is_some is) in_time)

pub answer_is_written : NewIsSettled → StaysSettled → PullsGoOn → EventIsDone → DueIsDone → NothingIsDue → PipeIsWatched → DeadlinesAreTrue → AnswerIsTold
    → AnswerIsWritten
answer_is_written new stays goes done_so due_so none_so watched_so so law c times h now lines more small set is fits =
    let w : Timed = after c times lines in
    let same : moment_of w.now ≡ now = ap moment_of is in
    subst (λ (n : ℕ). n + longest_wait times w.station.layer.restarting (awaited_at (layer_settings c) w.station.layer h) < 2 ^ 64 → 2 ≤ rank c w.station h
    → AreInTime c times more w → IsUntold c h (lines_plays c times more w) → moment_of (timed_turns c times more w).next.now
    ≤ n + longest_wait times w.station.layer.restarting (awaited_at (layer_settings c) w.station.layer h)) same
    (written new stays goes done_so due_so none_so watched_so so c times small law h lines more set (ap is_some is)) fits

pub silence_is_written : NewIsSettled → StaysSettled → PullsGoOn → EventIsDone → DueIsDone → NothingIsDue → PipeIsWatched → DeadlinesAreTrue → SilenceEnds
    → SilenceIsWritten
silence_is_written new stays goes done_so due_so none_so watched_so so law c times phase now lines more asks window small t1 t3 is fits =
    let w : Timed = after c times lines in
    let v : Timed = (timed_turns c times more w).next in
    let same : moment_of w.now ≡ now = ap moment_of is in
    subst (λ (n : ℕ). n + longest_silence times c.retries (runs w.station) < 2 ^ 64 → AreInTime c times more w
    → IsSilent c phase (lines_plays c times more w) → v.station.link.phase ≡ phase → moment_of v.now
    ≤ n + longest_silence times c.retries (runs w.station)) same
    (silent new stays goes done_so due_so none_so watched_so so c times small law phase lines more asks window t1 t3 (ap is_some is)) fits
