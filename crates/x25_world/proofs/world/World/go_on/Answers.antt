use Rattle.x25_world.proofs.Names.{err_from_is_err_and, run, deliveries, pull_rounds, fire_and_pull, most_times}
use Rattle.x25_world.proofs.{HealingRounds.{fired_at, counts_both}, HealingSchedule.{goes_behind, stops_first, stops_behind}}
use Rattle.x25_world.proofs.world.World.go_on.Goals as goal

pub returns-in_err-before-clause-stopped : goal.returns-in_err-before-clause-stopped
returns-in_err-before-clause-stopped c = λ cfg w before fits.
    let p = err_from_is_err_and c.from_residual.result c.from_residual.ensures.1 in
    rw (p.1, p.2) (stops_first (fire_and_pull cfg most_times (run cfg (deliveries cfg most_times w) w)) (c.in_err-before.ensures.stopped cfg w before fits))

pub returns-in_err-attempt_both-clause-stopped : goal.returns-in_err-attempt_both-clause-stopped
returns-in_err-attempt_both-clause-stopped c = λ cfg w before fits.
    let p = err_from_is_err_and c.from_residual-in_err-attempt_both.result c.from_residual-in_err-attempt_both.ensures.1 in
    let v = run cfg (deliveries cfg most_times w) w in
    let a = c.in_ok-before.ensures.goes cfg w before fits in
    rw (p.1, p.2) (stops_behind a
    (stops_first (pull_rounds cfg most_times most_times (fired_at cfg v))
    (c.in_err-attempt_both.ensures.stopped cfg v before a.fits)))

pub returns-in_err-behind-clause-stopped : goal.returns-in_err-behind-clause-stopped
returns-in_err-behind-clause-stopped c = λ cfg w before fits.
    let p = err_from_is_err_and c.from_residual-in_err-behind.result c.from_residual-in_err-behind.ensures.1 in
    let v = run cfg (deliveries cfg most_times w) w in
    let x = fired_at cfg v in
    let a = c.in_ok-before.ensures.goes cfg w before fits in
    let b = c.in_ok-attempt_both.ensures.goes cfg v before a.fits in
    rw (p.1, p.2) (stops_behind a
    (stops_behind b (c.in_err-behind.ensures.stopped cfg x before b.fits)))

pub returns-clause-goes : goal.returns-clause-goes
returns-clause-goes c = λ cfg w before fits.
    let v = run cfg (deliveries cfg most_times w) w in
    let x = fired_at cfg v in
    let a = c.in_ok-before.ensures.goes cfg w before fits in
    let b = c.in_ok-attempt_both.ensures.goes cfg v before a.fits in
    goes_behind a
    (goes_behind b (c.in_ok-behind.ensures.goes cfg x before b.fits))

pub returns-clause-counted : goal.returns-clause-counted
returns-clause-counted c = λ cfg w before fits.
    let v = run cfg (deliveries cfg most_times w) w in
    let x = fired_at cfg v in
    let a = c.in_ok-before.ensures.goes cfg w before fits in
    let b = c.in_ok-attempt_both.ensures.goes cfg v before a.fits in
    counts_both cfg most_times w c.in_ok-before.before c.in_ok-behind.behind c.from.result (c.in_ok-before.ensures.counted cfg w before fits)
    (c.in_ok-behind.ensures.counted cfg x before b.fits) c.from.ensures
