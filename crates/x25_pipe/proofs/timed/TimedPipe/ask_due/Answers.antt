use Rattle.std.proofs.Common.{◌∙◌, ◌-◌, Some, None, ap, refl, arith}
use Rattle.std.proofs.lemmas.Result.{err_from_is_err_and}
use Rattle.x25_clock.specs.Clock.{most_due}
use Rattle.x25_pipe.specs.Timed.{due_turns, insist_turn, moment_of, told_due}
use Rattle.x25_pipe.proofs.TimedLemmas.{all_left, due_alike, no_turn_left, none_left, nothing_is_due, part_done, part_failed, something_is_due, told_alike}
use Rattle.x25_pipe.proofs.timed.TimedPipe.ask_due.Goals as goal

pub loop-left-init : goal.loop-left-init
loop-left-init g c = (
  refl,
  λ k times old w told refused h. all_left k times old _ _ w told refused _ (most_due w.deadlines)
      (c.most_due-left.ensures ∙ ap most_due h.deadlines) h,
)

pub returns-in_default-clause-turns : goal.returns-in_default-clause-turns
returns-in_default-clause-turns g c = λ k times old w told refused h.
    let l = c.loop-left.invariant.1 k times old w told refused h in
    let is = l.stands in
    let left = c.loop-left.left in
    let time = c.moment_at.ensures ∙ ap moment_of is.time in
    let none = due_alike _ (moment_of l.at.now) _ l.at.deadlines None c.in_default.ensures.due time is.deadlines in
    none_left k times old _ _ c.loop-left.self _ told refused (due_turns k times (most_due w.deadlines) w) (due_turns k times left) l (told_due times l.at)
    (nothing_is_due k times left l.at (omega (arith, c.loop-left-test.true)) none)
    (record {
      pipe = is.pipe;
      deadlines = told_alike times _ _ _ _ l.at c.in_default.ensures.after is.timers time is.deadlines;
      timers = c.in_default.ensures.times ∙ is.timers;
      channels = c.in_default.ensures.channels ∙ is.channels;
      time = is.time;
    })

pub returns-in_err-insist-clause-turns : goal.returns-in_err-insist-clause-turns
returns-in_err-insist-clause-turns g c = λ k times old w told refused h.
    let p = err_from_is_err_and c.from_residual.result c.from_residual.ensures.1 in
    let l = c.loop-left.invariant.1 k times old w told refused h in
    let is = l.stands in
    let left = c.loop-left.left in
    let due = c.in-Some.due in
    let time = c.moment_at.ensures ∙ ap moment_of is.time in
    let some = due_alike _ (moment_of l.at.now) _ l.at.deadlines (Some due) c.in-Some.ensures.due time is.deadlines in
    rw p.1 (part_failed k times old _ _ c.loop-left.self c.loop-left.self told refused (due_turns k times (most_due w.deadlines) w) (due_turns k times left)
    (due_turns k times (left - 1)) (insist_turn k times due (told_due times l.at)) l
    (something_is_due k times left (left - 1) l.at due (omega (arith, c.loop-left-test.true)) some)
    (c.in_err-insist.ensures.turns k times old (told_due times l.at) l.text l.status
    (record {
      pipe = is.pipe;
      deadlines = told_alike times _ _ _ _ l.at c.in-Some.ensures.after is.timers time is.deadlines;
      timers = c.in-Some.ensures.times ∙ is.timers;
      channels = c.in-Some.ensures.channels ∙ is.channels;
      time = is.time;
    })))

pub loop-left-preserved : goal.loop-left-preserved
loop-left-preserved g c = (
  c.in_ok-insist.ensures.faults.kept ∙ c.loop-left.invariant.0,
  λ k times old w told refused h.
      let l = c.loop-left.invariant.1 k times old w told refused h in
      let is = l.stands in
      let left = c.loop-left.left in
      let due = c.in-Some.due in
      let time = c.moment_at.ensures ∙ ap moment_of is.time in
      let some = due_alike _ (moment_of l.at.now) _ l.at.deadlines (Some due) c.in-Some.ensures.due time is.deadlines in
      part_done k times old _ _ c.loop-left.self c.insist.new.self told refused (due_turns k times (most_due w.deadlines) w) (due_turns k times left)
      (due_turns k times (left - 1)) (insist_turn k times due (told_due times l.at)) l
      (something_is_due k times left (left - 1) l.at due (omega (arith, c.loop-left-test.true)) some)
      (c.in_ok-insist.ensures.turns k times old (told_due times l.at) l.text l.status
      (record {
        pipe = is.pipe;
        deadlines = told_alike times _ _ _ _ l.at c.in-Some.ensures.after is.timers time is.deadlines;
        timers = c.in-Some.ensures.times ∙ is.timers;
        channels = c.in-Some.ensures.channels ∙ is.channels;
        time = is.time;
      })),
)

pub returns-clause-turns : goal.returns-clause-turns
returns-clause-turns g c = λ k times old w told refused h.
    let l = c.loop-left.invariant.1 k times old w told refused h in
    let left = c.loop-left.left in
    none_left k times old _ _ c.loop-left.self c.loop-left.self told refused (due_turns k times (most_due w.deadlines) w) (due_turns k times left) l l.at
    (no_turn_left k times left l.at (omega (arith, c.loop-left-test.false))) l.stands
