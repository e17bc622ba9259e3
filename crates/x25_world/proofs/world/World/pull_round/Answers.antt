use Rattle.x25_world.proofs.Names.{err_from_is_err_and, Dte, Dce, run, pull_at, deliveries, both_tried, most_times}
use Rattle.x25_world.proofs.{HealingRounds.{count_round}, HealingSchedule.{goes_behind, stops_first, stops_behind}}
use Rattle.x25_world.proofs.world.World.pull_round.Goals as goal

pub returns-in_err-count-clause-stopped : goal.returns-in_err-count-clause-stopped
returns-in_err-count-clause-stopped c = λ cfg w before fits.
    let p = err_from_is_err_and c.from_residual.result c.from_residual.ensures.1 in
    let x = run cfg (deliveries cfg most_times w) w in
    rw (p.1, p.2) (stops_first (both_tried cfg (pull_at Dte) (pull_at Dce) x) (c.in_err-count.ensures.stopped cfg w before fits))

pub returns-in_err-attempt_both-clause-stopped : goal.returns-in_err-attempt_both-clause-stopped
returns-in_err-attempt_both-clause-stopped c = λ cfg w before fits.
    let p = err_from_is_err_and c.from_residual-in_err-attempt_both.result c.from_residual-in_err-attempt_both.ensures.1 in
    let x = run cfg (deliveries cfg most_times w) w in
    let a = c.in_ok-count.ensures.goes cfg w before fits in
    rw (p.1, p.2) (stops_behind a
    (c.in_err-attempt_both.ensures.stopped cfg x before a.fits))

pub returns-clause-goes : goal.returns-clause-goes
returns-clause-goes c = λ cfg w before fits.
    let x = run cfg (deliveries cfg most_times w) w in
    let a = c.in_ok-count.ensures.goes cfg w before fits in
    goes_behind a (c.in_ok-attempt_both.ensures.goes cfg x before a.fits)

pub returns-clause-counted : goal.returns-clause-counted
returns-clause-counted c = λ cfg w before fits. count_round cfg most_times w c.in_ok-count.count (c.in_ok-count.ensures.counted cfg w before fits)
