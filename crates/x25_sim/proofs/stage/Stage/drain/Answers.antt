use Rattle.std.proofs.Common.{◌∙◌, ◌-◌, ◌+◌, sym, arith}
use Rattle.std.proofs.lemmas.Result.{err_from_is_err_and}
use Rattle.x25_bits.specs.Role.{end_of}
use Rattle.x25_world.specs.World.{Receives}
use Rattle.x25_sim.specs.Stage.{drained, event_turn}
use Rattle.x25_sim.proofs.LeaveLemmas.{none_left, part_done, part_failed}
use Rattle.x25_sim.proofs.DrainLemmas.{drained_all, drained_empty, drained_more, line_is}
use Rattle.x25_sim.proofs.stage.Stage.drain.Goals as goal

pub returns-in_default-clause-turns : goal.returns-in_default-clause-turns
returns-in_default-clause-turns g c = λ cfg shown old w told refused h.
    let l = c.loop.invariant.1 cfg shown old w told refused h in
    none_left cfg shown old _ old c.loop.self c.loop.self told refused _ _ l
    (drained_empty cfg shown _ l.at (sym (line_is cfg c.loop.self.world l.at l.stands.fits) ∙ sym c.in_default.ensures))

pub returns-in_err-happen-clause-turns : goal.returns-in_err-happen-clause-turns
returns-in_err-happen-clause-turns g c = λ cfg shown old w told refused h.
    let p = err_from_is_err_and c.from_residual.result c.from_residual.ensures.1 in
    let l = c.loop.invariant.1 cfg shown old w told refused h in
    let at = end_of c.in-Some.direction in
    rw p.1 (part_failed cfg shown old _ _ c.loop.self c.loop.self told refused _ _ (event_turn cfg shown (record { at = at; act = Receives }))
    (drained cfg shown (c.args.count - (c.loop.counter + 1))) l
    (drained_more cfg shown _ _ l.at at (omega (arith, c.loop-test.true)) (sym (line_is cfg c.loop.self.world l.at l.stands.fits) ∙ sym c.in-Some.ensures))
    (c.in_err-happen.ensures.turns cfg shown old l.at l.text l.status l.stands))

pub loop-preserved : goal.loop-preserved
loop-preserved g c = (
  c.in_ok-happen.ensures.faults.kept ∙ c.loop.invariant.0,
  λ cfg shown old w told refused h.
      let l = c.loop.invariant.1 cfg shown old w told refused h in
      let at = end_of c.in-Some.direction in
      part_done cfg shown old _ _ c.loop.self c.happen.new.self told refused _ _ (event_turn cfg shown (record { at = at; act = Receives }))
      (drained cfg shown (c.args.count - (c.loop.counter + 1))) l
      (drained_more cfg shown _ _ l.at at (omega (arith, c.loop-test.true)) (sym (line_is cfg c.loop.self.world l.at l.stands.fits) ∙ sym c.in-Some.ensures))
      (c.in_ok-happen.ensures.turns cfg shown old l.at l.text l.status l.stands),
)

pub returns-clause-turns : goal.returns-clause-turns
returns-clause-turns g c = λ cfg shown old w told refused h.
    let l = c.loop.invariant.1 cfg shown old w told refused h in
    none_left cfg shown old _ old c.loop.self c.loop.self told refused _ _ l (drained_all cfg shown _ l.at (omega arith))
