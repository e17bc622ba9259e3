use Rattle.std.proofs.Common.{sym, subst}
use Rattle.std.proofs.lemmas.Result.{MatchResult-weaker}
use Rattle.x25_world.specs.World.{event_of, happens, after}
use Rattle.x25_world.specs.code.FitsWorld.{FitsWorld}
use Rattle.x25_sim.proofs.StandLemmas.{stands_moved, begins_moved}
use Rattle.x25_sim.proofs.stage.Stage.occur.Goals as goal

pub returns-in-Ok-clause-turns : goal.returns-in-Ok-clause-turns
returns-in-Ok-clause-turns g c = λ cfg shown old w told refused h.
    let o = happens cfg w (event_of c.args.event) in
    let acted = c.in-Ok.ensures.acted cfg w h.fits in
    let put = c.in-Ok.ensures.put cfg w h.fits in
    let stands = subst (λ v. FitsWorld cfg v (after w o)) (sym c.tell_step.ensures.world) acted.happened in
    MatchResult-weaker c.tell_step.result
    (c.tell_step.ensures.tells old told w (after w o) (rw c.at-at.ensures acted.tells) (rw (c.sent-before.ensures, c.at-at.ensures) put) h.tells)
    (λ _ told_all. stands_moved cfg shown old _ _ c.args.self.now c.tell_step.new.self w o told refused h acted.accepted stands c.tell_step.ensures.shown
    c.tell_step.ensures.is_refused told_all)
    (λ _ begins. begins_moved cfg shown old _ _ c.args.self.now c.tell_step.new.self w o told refused h acted.accepted begins)

pub returns-in-Err-clause-turns : goal.returns-in-Err-clause-turns
returns-in-Err-clause-turns g c = λ cfg shown old w told refused h.
    c.refuse.ensures.stood cfg shown old w (happens cfg w (event_of c.args.event)) told refused
    (record { fits = (c.in-Err.ensures.acted cfg w h.fits).stays; asked = h.asked; tells = h.tells; status = h.status })
    (c.in-Err.ensures.acted cfg w h.fits).refused
