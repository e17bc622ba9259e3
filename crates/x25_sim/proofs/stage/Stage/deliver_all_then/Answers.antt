use Rattle.std.proofs.lemmas.Result.{err_from_is_err_and, MatchResult-weaker}
use Rattle.x25_world.specs.World.{World, event_of}
use Rattle.x25_sim.specs.Stage.{Turn, and_then, drained, most_times, tried}
use Rattle.x25_sim.proofs.StandLemmas.{stands_behind, begins_behind, begins_before}
use Rattle.x25_sim.proofs.stage.Stage.deliver_all_then.Goals as goal

pub returns-in_err-drain-clause-turns : goal.returns-in_err-drain-clause-turns
returns-in_err-drain-clause-turns g c = λ cfg shown old w told refused h.
    let p = err_from_is_err_and c.from_residual.result c.from_residual.ensures.1 in
    let rest : World → Turn = λ v. and_then (tried cfg shown (event_of c.args.second)) (tried cfg shown (event_of c.args.first) v) in
    rw p.1 (begins_before cfg shown old _ c.drain.new.self told refused rest (drained cfg shown most_times w)
    (c.in_err-drain.ensures.turns cfg shown old w told refused h))

pub returns-clause-turns : goal.returns-clause-turns
returns-clause-turns g c = λ cfg shown old w told refused h.
    let first = drained cfg shown most_times w in
    let rest : World → Turn = λ v. and_then (tried cfg shown (event_of c.args.second)) (tried cfg shown (event_of c.args.first) v) in
    MatchResult-weaker c.attempt_both.result (c.attempt_both.ensures.turns cfg shown old _ _ _ (c.in_ok-drain.ensures.turns cfg shown old w told refused h))
    (λ _ stands. stands_behind cfg shown old _ c.attempt_both.new.self told refused rest first stands)
    (λ _ begins. begins_behind cfg shown old _ c.attempt_both.new.self told refused rest first begins)
