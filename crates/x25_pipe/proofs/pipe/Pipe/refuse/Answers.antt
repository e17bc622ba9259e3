use Rattle.std.proofs.Common.{refl}
use Rattle.x25_io.proofs.ToldLemmas.{told_more}
use Rattle.x25_pipe.proofs.StandLemmas.{acted_refused, error_is}
use Rattle.x25_pipe.proofs.pipe.Pipe.refuse.Goals as goal

pub returns-then-is_memory-clause-acted : goal.returns-then-is_memory-clause-acted
returns-then-is_memory-clause-acted g c = λ k old s event o told refused h come is. told_more _ _ _ told _ h.tells

pub returns-clause-acted : goal.returns-clause-acted
returns-clause-acted g c = λ k old s event o told refused h come is.
    let error = c.args.error in
    let refusal = error_is error o is (λ is. let yes = c.is_memory.ensures.1 is in let no_memory = c.if-is_memory.false in cc) in
    acted_refused k old _ _ s told refused c.tell_refusal.result event error o refusal (rw c.number.ensures at (c.tell_refusal.ensures.tells old told h.tells))
    h.fits h.role refl
    (c.reuse.ensures.timer k s h.fits) c.reuse.ensures.empty
