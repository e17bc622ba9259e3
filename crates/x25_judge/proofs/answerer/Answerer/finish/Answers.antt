use Rattle.std.proofs.Common.{◌++◌}
use Rattle.std.proofs.lemmas.Result.{err_from_is_err_and}
use Rattle.x25_judge.specs.Judge.{counts_text}
use Rattle.x25_judge.proofs.answerer.Answerer.finish.Goals as goal

pub returns-in_err-tell_counts-clause-tells : goal.returns-in_err-tell_counts-clause-tells
returns-in_err-tell_counts-clause-tells g c = λ old told h.
    let p = err_from_is_err_and c.from_residual.result c.from_residual.ensures.1 in
    rw p.1 (c.in_err-tell_counts.ensures.tells old told h)

pub returns-clause-tells : goal.returns-clause-tells
returns-clause-tells g c = λ old told h.
    c.flush.ensures.tells old (told ++ counts_text c.args.self.now.judge) (c.in_ok-tell_counts.ensures.tells old told h)
