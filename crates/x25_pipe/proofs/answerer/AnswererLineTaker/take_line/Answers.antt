use Rattle.std.proofs.lemmas.Result.{err_from_is_err_and, MatchResult-weaker}
use Rattle.x25_pipe.specs.Pipe.{piped}
use Rattle.x25_pipe.proofs.StandLemmas.{begins_marked, marks_behind}
use Rattle.x25_pipe.proofs.StreamLemmas.{line_done, line_failed}
use Rattle.x25_pipe.proofs.answerer.AnswererLineTaker.take_line.Goals as goal

pub returns-in_err-answer-clause-on : goal.returns-in_err-answer-clause-on
returns-in_err-answer-clause-on g c = λ k old first lines input line l.
    let p = err_from_is_err_and c.from_residual.result c.from_residual.ensures.1 in
    rw p.1 (line_failed k old _ _ (piped k input) c.args.self.now.pipe first lines l
    (begins_marked k old _ l.text l.status first l.at (c.in_err-answer.ensures.acts k old first line l.at l.text l.status l.stands)))

pub returns-clause-on : goal.returns-clause-on
returns-clause-on g c = λ k old first lines input line l.
    MatchResult-weaker c.mark.result
    (marks_behind k old _ _ l.text l.status first l.at c.answer.new.self c.mark.new.self c.mark.result
    (c.in_ok-answer.ensures.acts k old first line l.at l.text l.status l.stands) (c.mark.ensures.turns k old))
    (λ _ done. line_done k old _ _ (piped k input) c.args.self.now.pipe c.mark.new.self first lines l done)
    (λ _ begins. line_failed k old _ _ (piped k input) c.args.self.now.pipe first lines l begins)
