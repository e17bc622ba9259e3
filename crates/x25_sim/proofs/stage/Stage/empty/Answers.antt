use Rattle.std.proofs.Common.{◌∙◌, ◌-◌, ◌+◌, ap, sym, arith}
use Rattle.std.specs.Prelude.{is_none}
use Rattle.std.proofs.lemmas.Result.{err_from_is_err_and}
use Rattle.x25_sim.specs.Stage.{emptied, most_times, pulled}
use Rattle.x25_sim.proofs.LeaveLemmas.{none_left, left_as, part_done, part_failed}
use Rattle.x25_sim.proofs.DrainLemmas.{line_is}
use Rattle.x25_sim.proofs.HealLemmas.{one_less, left_behind, emptied_all, emptied_more, line_empty, line_filled}
use Rattle.x25_sim.proofs.stage.Stage.empty.Goals as goal

pub returns-in_err-pull-clause-turns : goal.returns-in_err-pull-clause-turns
returns-in_err-pull-clause-turns g c = λ cfg shown old w told refused h.
    let p = err_from_is_err_and c.from_residual.result c.from_residual.ensures.1 in
    let l = c.loop.invariant.1 cfg shown old w told refused h in
    let left = most_times - (c.loop.counter + 1) in
    rw p.1 (part_failed cfg shown old _ _ c.loop.self c.loop.self told refused _ _ (pulled cfg shown) (left_behind cfg shown left) l
    (emptied_more cfg shown _ left l.at (one_less most_times c.loop.counter c.loop-test.true))
    (c.in_err-pull.ensures.turns cfg shown old l.at l.text l.status l.stands))

pub returns-then-is_line_empty-clause-turns : goal.returns-then-is_line_empty-clause-turns
returns-then-is_line_empty-clause-turns g c = λ cfg shown old w told refused h.
    let l = c.loop.invariant.1 cfg shown old w told refused h in
    let left = most_times - (c.loop.counter + 1) in
    let m = part_done cfg shown old _ _ c.loop.self c.pull.new.self told refused _ _ (pulled cfg shown) (left_behind cfg shown left) l
    (emptied_more cfg shown _ left l.at (one_less most_times c.loop.counter c.loop-test.true))
    (c.in_ok-pull.ensures.turns cfg shown old l.at l.text l.status l.stands) in
    none_left cfg shown old _ old c.pull.new.self c.pull.new.self told refused _ (left_behind cfg shown left) m
    (line_empty cfg shown left m.at (sym (ap is_none (line_is cfg c.pull.new.self.world m.at m.stands.fits)) ∙ sym c.is_line_empty.ensures
    ∙ c.if-is_line_empty.true))

pub loop-preserved : goal.loop-preserved
loop-preserved g c = (
  c.in_ok-pull.ensures.faults.kept ∙ c.loop.invariant.0,
  λ cfg shown old w told refused h.
      let l = c.loop.invariant.1 cfg shown old w told refused h in
      let left = most_times - (c.loop.counter + 1) in
      let m = part_done cfg shown old _ _ c.loop.self c.pull.new.self told refused _ _ (pulled cfg shown) (left_behind cfg shown left) l
      (emptied_more cfg shown _ left l.at (one_less most_times c.loop.counter c.loop-test.true))
      (c.in_ok-pull.ensures.turns cfg shown old l.at l.text l.status l.stands) in
      left_as cfg shown old _ old c.pull.new.self c.pull.new.self told refused _ (left_behind cfg shown left) (emptied cfg shown left) m
      (line_filled cfg shown left m.at (sym (ap is_none (line_is cfg c.pull.new.self.world m.at m.stands.fits)) ∙ sym c.is_line_empty.ensures
      ∙ c.if-is_line_empty.false)),
)

pub returns-clause-turns : goal.returns-clause-turns
returns-clause-turns g c = λ cfg shown old w told refused h.
    let l = c.loop.invariant.1 cfg shown old w told refused h in
    none_left cfg shown old _ old c.loop.self c.loop.self told refused _ _ l (emptied_all cfg shown _ l.at (omega arith))
