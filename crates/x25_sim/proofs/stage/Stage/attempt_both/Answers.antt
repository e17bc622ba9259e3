use Rattle.std.proofs.lemmas.Result.{err_from_is_err_and, MatchResult-weaker}
use Rattle.x25_world.specs.World.{event_of}
use Rattle.x25_sim.specs.Stage.{tried}
use Rattle.x25_sim.proofs.StandLemmas.{stands_behind, begins_behind, begins_before}
use Rattle.x25_sim.proofs.stage.Stage.attempt_both.Goals as goal

pub returns-in_err-attempt-clause-turns : goal.returns-in_err-attempt-clause-turns
returns-in_err-attempt-clause-turns g c = λ cfg shown old w told refused h.
    let p = err_from_is_err_and c.from_residual.result c.from_residual.ensures.1 in
    rw p.1 (begins_before cfg shown old _ c.attempt.new.self told refused (tried cfg shown (event_of c.args.second)) (tried cfg shown (event_of c.args.first) w)
    (c.in_err-attempt.ensures.turns cfg shown old w told refused h))

pub returns-clause-turns : goal.returns-clause-turns
returns-clause-turns g c = λ cfg shown old w told refused h.
    let first = tried cfg shown (event_of c.args.first) w in
    let rest = tried cfg shown (event_of c.args.second) in
    MatchResult-weaker c.attempt-2.result (c.attempt-2.ensures.turns cfg shown old _ _ _ (c.in_ok-attempt.ensures.turns cfg shown old w told refused h))
    (λ _ stands. stands_behind cfg shown old _ c.attempt-2.new.self told refused rest first stands)
    (λ _ begins. begins_behind cfg shown old _ c.attempt-2.new.self told refused rest first begins)
