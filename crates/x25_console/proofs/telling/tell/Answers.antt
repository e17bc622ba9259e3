use Rattle.std.proofs.lemmas.Result.{err_from_is_err_and}
use Rattle.x25_console.proofs.telling.tell.Goals as goal

pub returns-in_err-tell-clause-tells : goal.returns-in_err-tell-clause-tells
returns-in_err-tell-clause-tells g c = λ old told h.
    let p = err_from_is_err_and c.from_residual.result c.from_residual.ensures.1 in
    rw p.1 (c.in_err-tell.ensures.tells old told h)
