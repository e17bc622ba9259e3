use Rattle.std.proofs.Common.{subst}
use Rattle.x25_pipe.specs.Timed.{answer_turn}
use Rattle.x25_pipe.specs.code.TimedStands.{StoodTimed}
use Rattle.x25_pipe.proofs.timed.TimedPipe.answer.Goals as goal

pub returns-in-Some-clause-turns : goal.returns-in-Some-clause-turns
returns-in-Some-clause-turns g c = λ k times old text line w told refused h.
    subst (λ o. StoodTimed k times old (g.W.Sink.contents c.pass.new.writer) c.pass.new.self told refused c.pass.result (answer_turn k times text w o))
    (c.in-Some.ensures text line)
    (c.pass.ensures.turns k times old text w told refused h)

pub returns-in-None-clause-turns : goal.returns-in-None-clause-turns
returns-in-None-clause-turns g c = λ k times old text line w told refused h.
    subst (λ o. StoodTimed k times old (g.W.Sink.contents c.obey.new.writer) c.obey.new.self told refused c.obey.result (answer_turn k times text w o))
    (c.in-None.ensures text line)
    (c.obey.ensures.turns k times old text line w told refused h)
