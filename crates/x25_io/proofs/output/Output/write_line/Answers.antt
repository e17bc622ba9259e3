use Rattle.std.proofs.lemmas.Result.{err_from_is_err_and, on_err_weaker, on_ok_weaker, MatchResult-from_both}
use Rattle.x25_io.proofs.ToldLemmas.{prefix_more, line_begun, line_written}
use Rattle.x25_io.proofs.output.Output.write_line.Goals as goal

pub returns-in_err-flush-clause-tells : goal.returns-in_err-flush-clause-tells
returns-in_err-flush-clause-tells g c = λ old told h.
    let p = err_from_is_err_and c.from_residual.result c.from_residual.ensures.1 in
    rw p.1 (prefix_more _ _ told _ (c.in_err-flush.ensures.tells old told h))

pub returns-clause-tells : goal.returns-clause-tells
returns-clause-tells g c = λ old told h.
    let flushed = c.in_ok-flush.ensures in
    MatchResult-from_both c.write_all.result _ _
    (on_ok_weaker c.write_all.result (λ a. line_written _ _ _ _ told _ (flushed.tells old told h) flushed.empty a) c.write_all.ensures.ok)
    (on_err_weaker c.write_all.result (λ b. line_begun _ _ _ _ told _ (flushed.tells old told h) flushed.empty b) c.write_all.ensures.err)
