use Rattle.std.proofs.Common.{◌++◌, MatchResult, subst}
use Rattle.x25_io.specs.code.Written.{AppendsPrefix, Tells}
use Rattle.x25_pipe.proofs.telling.tell_mark.Goals as goal

pub returns-clause-tells : goal.returns-clause-tells
returns-clause-tells g c = λ end old told h.
    let now = g.W.Sink.contents c.tell.new.writer in
    subst (λ line. MatchResult c.tell.result (λ _. Tells old now c.tell.new.output (told ++ line)) (λ _. AppendsPrefix old now (told ++ line)))
    (c.mark_line.ensures end)
    (c.tell.ensures.tells old told h)
