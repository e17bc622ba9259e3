use Rattle.std.proofs.lemmas.Result.{err_from_is_err_and}
use Rattle.x25_io.proofs.line_taker.LineByLine.end_line.Goals as goal

pub returns-in_err-take_line-clause-on : goal.returns-in_err-take_line-clause-on
returns-in_err-take_line-clause-on g c = λ setting old begun lines text holds stands.
    let p = err_from_is_err_and c.from_residual.result c.from_residual.ensures.1 in
    rw p.1 (c.in_err-take_line.ensures.on setting old begun lines text (c.line.ensures begun holds) stands)

pub returns-clause-on : goal.returns-clause-on
returns-clause-on g c = λ setting old begun lines text holds stands. c.in_ok-take_line.ensures.on setting old begun lines text (c.line.ensures begun holds)
    stands
