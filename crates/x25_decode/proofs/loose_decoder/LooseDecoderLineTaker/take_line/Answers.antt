use Rattle.std.proofs.lemmas.Result.{err_from_is_err_and}
use Rattle.x25_decode.proofs.LooseLemmas.{line_failed, line_told}
use Rattle.x25_decode.proofs.loose_decoder.LooseDecoderLineTaker.take_line.Goals as goal

pub returns-clause-on : goal.returns-clause-on
returns-clause-on g c = λ reading old first lines input line h.
    line_told reading old _ _ input c.args.self.now c.answer_line.new.self first lines h c.answer_line.ensures.reading
    (c.in_ok-answer_line.ensures.tells first line old h.told h.tells) (c.in_ok-answer_line.ensures.refused first line)

pub returns-in_err-answer_line-clause-on : goal.returns-in_err-answer_line-clause-on
returns-in_err-answer_line-clause-on g c = λ reading old first lines input line h.
    let p = err_from_is_err_and c.from_residual.result c.from_residual.ensures.1 in
    rw p.1 (line_failed reading old _ _ input c.args.self.now first lines h (c.in_err-answer_line.ensures.tells first line old h.told h.tells))
