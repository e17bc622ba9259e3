use Rattle.std.proofs.Common.{refl, sym, subst}
use Rattle.std.proofs.lemmas.Result.{err_from_is_err_and, MatchResult-weaker}
use Rattle.x25_world.specs.World.{event_of, happens, after}
use Rattle.x25_world.specs.code.FitsWorld.{FitsWorld}
use Rattle.x25_sim.specs.Stage.{Turn, and_then, marked, tried, tried_of, turn_of}
use Rattle.x25_io.proofs.ToldLemmas.{told_more}
use Rattle.x25_sim.proofs.StandLemmas.{StandsAt, BeginsAt, stands_moved, begins_moved, stands_left_out, refusal_is, stands_behind, begins_behind, begins_before}
use Rattle.x25_sim.proofs.StepLemmas.{happened_tried}
use Rattle.x25_sim.proofs.stage.Stage.attempt.Goals as goal

pub returns-in_err-tell_step-clause-turns : goal.returns-in_err-tell_step-clause-turns
unfolding tried
returns-in_err-tell_step-clause-turns g c = λ cfg shown old w told refused h.
    let p = err_from_is_err_and c.from_residual.result c.from_residual.ensures.1 in
    let e = event_of c.args.event in
    let o = happens cfg w e in
    let acted = c.in_default.ensures.acted cfg w h.fits in
    let put = c.in_default.ensures.put cfg w h.fits in
    rw p.1 (subst (BeginsAt old (g.W.Sink.contents c.tell_step.new.writer) told) (sym (happened_tried shown e w o acted.accepted))
    (begins_before cfg shown old _ c.tell_step.new.self told refused (marked shown e) (turn_of shown w o)
    (begins_moved cfg shown old _ _ c.args.self.now c.tell_step.new.self w o told refused h acted.accepted
    (c.in_err-tell_step.ensures.tells old told w (after w o) (rw c.at-at.ensures acted.tells) (rw (c.sent-before.ensures, c.at-at.ensures) put) h.tells))))

pub returns-clause-turns : goal.returns-clause-turns
unfolding tried
returns-clause-turns g c = λ cfg shown old w told refused h.
    let e = event_of c.args.event in
    let o = happens cfg w e in
    let acted = c.in_default.ensures.acted cfg w h.fits in
    let put = c.in_default.ensures.put cfg w h.fits in
    let stands = subst (λ v. FitsWorld cfg v (after w o)) (sym c.tell_step.ensures.world) acted.happened in
    let first = turn_of shown w o in
    let next = g.W.Sink.contents c.mark.new.writer in
    let is = sym (happened_tried shown e w o acted.accepted) in
    let moved = stands_moved cfg shown old _ _ c.args.self.now c.tell_step.new.self w o told refused h acted.accepted stands c.tell_step.ensures.shown
    c.tell_step.ensures.is_refused
    (c.in_ok-tell_step.ensures.tells old told w (after w o) (rw c.at-at.ensures acted.tells) (rw (c.sent-before.ensures, c.at-at.ensures) put) h.tells) in
    MatchResult-weaker c.mark.result (c.mark.ensures.turns cfg shown old _ _ _ moved)
    (λ _ stands. subst (StandsAt cfg shown old next c.mark.new.self told refused) is
    (stands_behind cfg shown old next c.mark.new.self told refused (marked shown e) first stands))
    (λ _ begins. subst (BeginsAt old next told) is (begins_behind cfg shown old next c.mark.new.self told refused (marked shown e) first begins))

pub returns-in-Err-clause-turns : goal.returns-in-Err-clause-turns
unfolding tried
returns-in-Err-clause-turns g c = λ cfg shown old w told refused h.
    let o = happens cfg w (event_of c.args.event) in
    MatchResult-weaker c.unless_memory.result c.unless_memory.ensures.other
    (λ _ other. stands_left_out cfg shown old _ _ c.args.self.now _ w o told refused h c.in-Err.error
    (refusal_is (c.in-Err.ensures.acted cfg w h.fits).refused other) (event_of c.args.event)
    (c.in-Err.ensures.acted cfg w h.fits).stays refl refl h.tells)
    (λ _ _. told_more _ _ _ told _ h.tells)
