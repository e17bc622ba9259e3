use Rattle.std.proofs.Common.{◌∷◌, ◌++◌, sym, subst}
use Rattle.std.proofs.lemmas.Result.{err_from_is_err_and, MatchResult-weaker}
use Rattle.x25_pipe.specs.Timed.{answer_turn, mark_turn, time_said, timed, timed_turn, timed_turns}
use Rattle.x25_pipe.proofs.TimedLemmas.{begins_before, line_is, part_done, part_failed, stood_behind, turns_more}
use Rattle.x25_io.specs.code.Written.{AppendsPrefix}
use Rattle.x25_pipe.specs.code.TimedStands.{StoodTimed}
use Rattle.x25_pipe.proofs.timed_answerer.TimedAnswererLineTaker.take_line.Goals as goal

pub returns-in_err-answer-clause-on : goal.returns-in_err-answer-clause-on
returns-in_err-answer-clause-on g c = λ setting old first lines input line l.
    let k = setting.0 in
    let times = setting.1 in
    let p = err_from_is_err_and c.from_residual.result c.from_residual.ensures.1 in
    let t = answer_turn k times first l.at (time_said first) in
    rw p.1 (part_failed k times old _ _ c.args.self.now.timed c.args.self.now.timed _ _ (timed k times input) (timed_turns k times (first ∷ lines))
    (timed_turns k times lines) (timed_turn k times first l.at) l
    (turns_more k times first lines l.at)
    (subst (λ x. AppendsPrefix old (g.W.Sink.contents c.answer.new.writer) (l.text ++ x.text)) (sym (line_is k times first l.at))
    (begins_before k times old _ l.text l.status (mark_turn k) t (c.in_err-answer.ensures.turns k times old first line l.at l.text l.status l.stands))))

pub returns-clause-on : goal.returns-clause-on
returns-clause-on g c = λ setting old first lines input line l.
    let k = setting.0 in
    let times = setting.1 in
    let t = answer_turn k times first l.at (time_said first) in
    let stands = c.in_ok-answer.ensures.turns k times old first line l.at l.text l.status l.stands in
    let turned = subst (λ x. StoodTimed k times old (g.W.Sink.contents c.mark.new.writer) c.mark.new.self l.text l.status c.mark.result x)
    (sym (line_is k times first l.at))
    (stood_behind k times old _ l.text l.status (mark_turn k) t c.mark.new.self c.mark.result
    (c.mark.ensures.turns k times old t.next (l.text ++ t.text) _ stands)) in
    MatchResult-weaker c.mark.result turned
    (λ _ done. part_done k times old _ _ c.args.self.now.timed c.mark.new.self _ _ (timed k times input) (timed_turns k times (first ∷ lines))
    (timed_turns k times lines) (timed_turn k times first l.at) l
    (turns_more k times first lines l.at) done)
    (λ _ begins. part_failed k times old _ _ c.args.self.now.timed c.args.self.now.timed _ _ (timed k times input) (timed_turns k times (first ∷ lines))
    (timed_turns k times lines) (timed_turn k times first l.at) l
    (turns_more k times first lines l.at) begins)
