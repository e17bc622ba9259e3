use Rattle.x25_world.proofs.Names.{sym, ap, ◌∙◌, arith, err_from_is_err_and, end_of, run, all_received, next_end, telling}
use Rattle.x25_world.proofs.HealingSchedule.{one_delivered, ends_drained, ends_counted, stops_there}
use Rattle.x25_world.proofs.world.World.deliver_all.Goals as goal

pub returns-in_default-clause-goes : goal.returns-in_default-clause-goes
returns-in_default-clause-goes c = λ cfg w before fits.
    (ends_drained (c.loop-count.invariant.1 cfg w before fits) (sym c.in_default.ensures)).goes

pub returns-in_default-clause-counted : goal.returns-in_default-clause-counted
returns-in_default-clause-counted c = λ cfg w before fits.
    (ends_drained (c.loop-count.invariant.1 cfg w before fits) (sym c.in_default.ensures)).counted

pub returns-in_default-clause-none : goal.returns-in_default-clause-none
returns-in_default-clause-none c = λ none. ap (λ v. next_end v.to_dce v.to_dte) (sym (c.loop-count.invariant.0 none)) ∙ sym c.in_default.ensures

pub returns-in_err-tell-clause-stopped : goal.returns-in_err-tell-clause-stopped
returns-in_err-tell-clause-stopped c = λ cfg w before fits.
    let p = err_from_is_err_and c.from_residual.result c.from_residual.ensures.1 in
    let l = c.loop-count.invariant.1 cfg w before fits in
    let x = run cfg (all_received l.done) w in
    rw (p.1, p.2) (stops_there (telling c.tell.new.self c.tell.new.told.items) (end_of c.in-Some.direction) c.in_err-tell.field-0.0 l (sym c.in-Some.ensures)
    (c.in_err-tell.ensures.stays cfg x before l.goes.fits, c.in_err-tell.ensures.refused cfg x l.goes.fits.fits))

pub loop-count-preserved : goal.loop-count-preserved
loop-count-preserved c = (
  λ none. absurd (omega (arith, none)),
  λ cfg w before fits.
      let l = c.loop-count.invariant.1 cfg w before fits in
      let x = run cfg (all_received l.done) w in
      one_delivered (telling c.tell.new.self c.tell.new.told.items) (end_of c.in-Some.direction) (omega (arith, c.loop-count-test.true)) l
      (sym c.in-Some.ensures)
      (c.in_ok-tell.ensures.step cfg x before l.goes.fits),
)

pub returns-clause-goes : goal.returns-clause-goes
returns-clause-goes c = λ cfg w before fits.
    (ends_counted (c.loop-count.invariant.1 cfg w before fits) (omega (arith, c.loop-count-test.false))).goes

pub returns-clause-counted : goal.returns-clause-counted
returns-clause-counted c = λ cfg w before fits.
    let counted = (ends_counted (c.loop-count.invariant.1 cfg w before fits) (omega (arith, c.loop-count-test.false))).counted in
    omega (arith, counted, c.loop-count-test.false, c.loop-count.auto.count-end)
