use Rattle.std.proofs.Common.{refl}
use Rattle.std.proofs.lemmas.Result.{MatchResult-weaker, err_from_is_err_and}
use Rattle.x25_io.proofs.ToldLemmas.{told_more}
use Rattle.x25_sim.proofs.StandLemmas.{stands_refused, begins_refused, refusal_is}
use Rattle.x25_sim.proofs.stage.Stage.refuse.Goals as goal

pub returns-in_err-unless_memory-clause-stood : goal.returns-in_err-unless_memory-clause-stood
returns-in_err-unless_memory-clause-stood g c = λ cfg shown old w outcome told refused h how.
    let p = err_from_is_err_and c.from_residual.result c.from_residual.ensures.1 in
    rw p.1 (told_more _ _ _ told _ h.tells)

pub returns-clause-stood : goal.returns-clause-stood
returns-clause-stood g c = λ cfg shown old w outcome told refused h how.
    let refusal = refusal_is how c.in_ok-unless_memory.ensures.other in
    MatchResult-weaker c.tell_refusal.result (rw c.refusal_number.ensures at (c.tell_refusal.ensures.tells old told h.tells))
    (λ _ tells. stands_refused cfg shown old _ _ _ _ w outcome told refused h c.args.error refusal refl refl refl tells)
    (λ _ begins. begins_refused cfg shown old _ _ c.args.self.now c.args.self.now w outcome told refused h c.args.error refusal begins)
