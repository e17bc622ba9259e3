use Rattle.x25_world.proofs.Names.{◌≡◌, ◌-◌, ◌+◌, ◌∙◌, sym, ap, false, arith, err_from_is_err_and, is_none, run, next_end, pull_round, pull_rounds, most_times}
use Rattle.x25_world.proofs.HealingRounds.{left_behind, is_none_true, no_rounds, line_empty, line_filled, next_round, round_done, few_more, rounds_more}
use Rattle.x25_world.proofs.{HealingSchedule.{line_is, rest_is, stops_in, went_all, counted_all}, Names.{telling}}
use Rattle.x25_world.proofs.world.World.pull_all.Goals as goal

pub returns-in_err-more-clause-stopped : goal.returns-in_err-more-clause-stopped
returns-in_err-more-clause-stopped c = λ cfg w before fits.
    let p = err_from_is_err_and c.from_residual.result c.from_residual.ensures.1 in
    let all = pull_rounds cfg most_times most_times w in
    let n = next_round cfg most_times all w before most_times c.loop.counter c.loop.count (telling c.loop.self c.loop.told.items) c.loop-test.true
    (c.loop.invariant.3 cfg w before fits) in
    rw (p.1, p.2) (stops_in (telling c.pull_round.new.self c.pull_round.new.told.items) (pull_round cfg most_times)
    (left_behind cfg most_times (most_times - (c.loop.counter + 1))) n c.in_err-more.field-0.0
    (c.in_err-more.ensures.stopped cfg (run cfg n.done w) before n.goes.fits))

pub returns-then-is_line_empty-clause-goes : goal.returns-then-is_line_empty-clause-goes
returns-then-is_line_empty-clause-goes c = λ cfg w before fits.
    let all = pull_rounds cfg most_times most_times w in
    let l = c.loop.invariant.3 cfg w before fits in
    let x = run cfg l.done w in
    let left = most_times - (c.loop.counter + 1) in
    let m = round_done cfg most_times all w before most_times c.loop.counter c.loop.count (telling c.pull_round.new.self c.pull_round.new.told.items)
    c.from-count.result c.loop-test.true l
    (c.in_ok-more.ensures.goes cfg x before l.goes.fits) (c.from-count.ensures ∙ c.in_ok-more.ensures.counted cfg x before l.goes.fits) in
    let y = run cfg m.done w in
    went_all m
    (line_empty cfg most_times left y (sym (line_is m.goes.fits.fits) ∙ is_none_true _ (sym c.is_line_empty.ensures ∙ c.if-is_line_empty.true)))

pub returns-then-is_line_empty-clause-counted : goal.returns-then-is_line_empty-clause-counted
returns-then-is_line_empty-clause-counted c = λ cfg w before fits.
    let all = pull_rounds cfg most_times most_times w in
    let l = c.loop.invariant.3 cfg w before fits in
    let x = run cfg l.done w in
    let left = most_times - (c.loop.counter + 1) in
    let m = round_done cfg most_times all w before most_times c.loop.counter c.loop.count (telling c.pull_round.new.self c.pull_round.new.told.items)
    c.from-count.result c.loop-test.true l
    (c.in_ok-more.ensures.goes cfg x before l.goes.fits) (c.from-count.ensures ∙ c.in_ok-more.ensures.counted cfg x before l.goes.fits) in
    let y = run cfg m.done w in
    counted_all m
    (line_empty cfg most_times left y (sym (line_is m.goes.fits.fits) ∙ is_none_true _ (sym c.is_line_empty.ensures ∙ c.if-is_line_empty.true)))

pub loop-preserved : goal.loop-preserved
loop-preserved c =
    let filled : is_none (next_end c.pull_round.new.self.to_dce c.pull_round.new.self.to_dte) ≡ false =
    sym c.is_line_empty.ensures ∙ c.if-is_line_empty.false in (
      few_more c.loop.count c.loop.counter c.from-count.result (omega (arith, c.from-count.ensures)) c.loop.invariant.0,
      rounds_more (next_end c.loop.self.to_dce c.loop.self.to_dte) c.loop.count c.loop.counter c.from-count.result c.loop.invariant.1 c.loop.invariant.2
          (λ none. c.in_ok-more.ensures.none (sym c.from-count.ensures ∙ none)),
      λ some. filled,
      λ cfg w before fits.
          let all = pull_rounds cfg most_times most_times w in
          let l = c.loop.invariant.3 cfg w before fits in
          let x = run cfg l.done w in
          let left = most_times - (c.loop.counter + 1) in
          let m = round_done cfg most_times all w before most_times c.loop.counter c.loop.count (telling c.pull_round.new.self c.pull_round.new.told.items)
          c.from-count.result c.loop-test.true l
          (c.in_ok-more.ensures.goes cfg x before l.goes.fits) (c.from-count.ensures ∙ c.in_ok-more.ensures.counted cfg x before l.goes.fits) in
          let y = run cfg m.done w in
          rest_is m (pull_rounds cfg most_times left) (line_filled cfg most_times left y (ap is_none (sym (line_is m.goes.fits.fits)) ∙ filled)),
    )

pub returns-clause-goes : goal.returns-clause-goes
returns-clause-goes c = λ cfg w before fits.
    let l = c.loop.invariant.3 cfg w before fits in
    went_all l (no_rounds cfg most_times (most_times - c.loop.counter) (run cfg l.done w) (omega (arith, c.loop-test.false)))

pub returns-clause-counted : goal.returns-clause-counted
returns-clause-counted c = λ cfg w before fits.
    let l = c.loop.invariant.3 cfg w before fits in
    counted_all l (no_rounds cfg most_times (most_times - c.loop.counter) (run cfg l.done w) (omega (arith, c.loop-test.false)))
