use Rattle.x25_judge.proofs.StreamLemmas.{line_failed, line_told}
use Rattle.x25_judge.proofs.answerer.AnswererLineTaker.take_line.Goals as goal

pub returns-in-Ok-clause-on : goal.returns-in-Ok-clause-on
returns-in-Ok-clause-on g c = λ s old first lines input line h.
    let r = c.in-Ok.ensures.replies first line in
    line_told s.0 s.1 old _ _ input c.args.self.now c.answer_line.new.self first lines h (r.tells old h.told h.tells) r.next r.is_faulty r.reads

pub returns-in-Err-clause-on : goal.returns-in-Err-clause-on
returns-in-Err-clause-on g c = λ s old first lines input line h.
    line_failed s.0 s.1 old _ _ input c.args.self.now first lines h ((c.in-Err.ensures.replies first line).tells old h.told h.tells)
