use Rattle.std.proofs.lemmas.Result.{err_from_is_err_and, MatchResult-weaker}
use Rattle.x25_world.specs.World.{event_of, happens}
use Rattle.x25_sim.specs.Stage.{event_turn, marked, turn_of}
use Rattle.x25_sim.proofs.StandLemmas.{stands_behind, begins_behind, begins_before}
use Rattle.x25_sim.proofs.stage.Stage.happen.Goals as goal

pub returns-in_err-occur-clause-turns : goal.returns-in_err-occur-clause-turns
unfolding event_turn
returns-in_err-occur-clause-turns g c = λ cfg shown old w told refused h.
    let p = err_from_is_err_and c.from_residual.result c.from_residual.ensures.1 in
    let e = event_of c.args.event in
    rw p.1 (begins_before cfg shown old _ c.occur.new.self told refused (marked shown e) (turn_of shown w (happens cfg w e))
    (c.in_err-occur.ensures.turns cfg shown old w told refused h))

pub returns-clause-turns : goal.returns-clause-turns
unfolding event_turn
returns-clause-turns g c = λ cfg shown old w told refused h.
    let e = event_of c.args.event in
    let first = turn_of shown w (happens cfg w e) in
    MatchResult-weaker c.mark.result (c.mark.ensures.turns cfg shown old _ _ _ (c.in_ok-occur.ensures.turns cfg shown old w told refused h))
    (λ _ stands. stands_behind cfg shown old _ c.mark.new.self told refused (marked shown e) first stands)
    (λ _ begins. begins_behind cfg shown old _ c.mark.new.self told refused (marked shown e) first begins)
