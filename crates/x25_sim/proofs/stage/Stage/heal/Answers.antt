use Rattle.std.proofs.lemmas.Result.{err_from_is_err_and, MatchResult-weaker}
use Rattle.x25_sim.specs.Stage.{emptied, fired, healed, most_times}
use Rattle.x25_sim.proofs.StandLemmas.{stands_behind, begins_behind, begins_before}
use Rattle.x25_sim.proofs.stage.Stage.heal.Goals as goal

pub returns-in_err-fire-clause-turns : goal.returns-in_err-fire-clause-turns
unfolding healed
returns-in_err-fire-clause-turns g c = λ cfg shown old w told refused h.
    let p = err_from_is_err_and c.from_residual.result c.from_residual.ensures.1 in
    rw p.1 (begins_before cfg shown old _ c.fire.new.self told refused (emptied cfg shown most_times) (fired cfg shown w)
    (c.in_err-fire.ensures.turns cfg shown old w told refused h))

pub returns-clause-turns : goal.returns-clause-turns
unfolding healed
returns-clause-turns g c = λ cfg shown old w told refused h.
    MatchResult-weaker c.empty.result (c.empty.ensures.turns cfg shown old _ _ _ (c.in_ok-fire.ensures.turns cfg shown old w told refused h))
    (λ _ stands. stands_behind cfg shown old _ c.empty.new.self told refused (emptied cfg shown most_times) (fired cfg shown w) stands)
    (λ _ begins. begins_behind cfg shown old _ c.empty.new.self told refused (emptied cfg shown most_times) (fired cfg shown w) begins)
