use Rattle.std.proofs.Common.{ap₂, refl}
use Rattle.std.proofs.lemmas.Result.{err_from_is_err_and}
use Rattle.x25_station.specs.Station.Told.{awaits_answers, is_idle}
use Rattle.x25_pipe.specs.Pipe.{marks, saying_line}
use Rattle.x25_pipe.proofs.StandLemmas.{stands_marked, begins_told}
use Rattle.x25_pipe.proofs.pipe.Pipe.mark.Goals as goal

pub returns-in_err-tell_mark-clause-turns : goal.returns-in_err-tell_mark-clause-turns
returns-in_err-tell_mark-clause-turns g c = λ k old s told refused h.
    let p = err_from_is_err_and c.from_residual.result c.from_residual.ensures.1 in
    let timer = c.args.self.now.step.timer in
    let same = ap₂ (λ a b. saying_line k.role (marks timer a b)) (c.idle-is_idle.ensures k s h.fits) (c.awaits_answers-is_due.ensures k s h.fits) in
    rw p.1 (begins_told k old _ s told _ (marks timer (is_idle k s) (awaits_answers k s)) same (c.in_err-tell_mark.ensures.tells k.role old told h.tells))

pub returns-clause-turns : goal.returns-clause-turns
returns-clause-turns g c = λ k old s told refused h.
    let timer = c.args.self.now.step.timer in
    let same = ap₂ (λ a b. saying_line k.role (marks timer a b)) (c.idle-is_idle.ensures k s h.fits) (c.awaits_answers-is_due.ensures k s h.fits) in
    c.flush.ensures.stands k old s _ _
    (stands_marked k old _ _ s told _ refused (marks timer (is_idle k s) (awaits_answers k s)) refl same h.fits h.role h.status
    (c.in_ok-tell_mark.ensures.tells k.role old told h.tells))
