use Rattle.x25_world.proofs.Names.{err_from_is_err_and, run, event_of, if_accepted, both_tried, GoesPartly, telling}
use Rattle.std.proofs.lemmas.Result.{on_ok_weaker, IfErr-weaker}
use Rattle.x25_world.proofs.HealingSchedule.{goes_behind, stops_first, stops_behind}
use Rattle.x25_world.proofs.world.World.attempt_both.Goals as goal

pub returns-in_err-attempt-clause-stopped : goal.returns-in_err-attempt-clause-stopped
returns-in_err-attempt-clause-stopped c = λ cfg w before fits.
    let p = err_from_is_err_and c.from_residual.result c.from_residual.ensures.1 in
    let one = if_accepted cfg (event_of c.args.first) w in
    rw (p.1, p.2) (stops_first (if_accepted cfg (event_of c.args.second) (run cfg one w)) (c.in_err-attempt.ensures.stopped cfg w before fits))

pub returns-clause-goes : goal.returns-clause-goes
returns-clause-goes c = λ cfg w before fits.
    let one = if_accepted cfg (event_of c.args.first) w in
    let x = run cfg one w in
    let a = c.in_ok-attempt.ensures.goes cfg w before fits in
    on_ok_weaker c.attempt-2.result (λ b. goes_behind a b) (c.attempt-2.ensures.goes cfg x before a.fits)

pub returns-clause-stopped : goal.returns-clause-stopped
returns-clause-stopped c = λ cfg w before fits.
    let one = if_accepted cfg (event_of c.args.first) w in
    let x = run cfg one w in
    let two = if_accepted cfg (event_of c.args.second) x in
    let a = c.in_ok-attempt.ensures.goes cfg w before fits in
    IfErr-weaker c.attempt-2.result (GoesPartly cfg two x (telling c.attempt-2.new.self c.attempt-2.new.told.items) before)
    (GoesPartly cfg (both_tried cfg (event_of c.args.first) (event_of c.args.second) w) w (telling c.attempt-2.new.self c.attempt-2.new.told.items) before)
    (λ e partly. stops_behind a partly) (c.attempt-2.ensures.stopped cfg x before a.fits)
