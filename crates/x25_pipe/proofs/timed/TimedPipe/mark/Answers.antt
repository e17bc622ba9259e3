use Rattle.std.proofs.Common.{◌∙◌, ◌++◌, false, ap, ap₂, sym, subst}
use Rattle.std.specs.Prelude.{◌||◌}
use Rattle.std.proofs.Math.Bool.{or-false}
use Rattle.std.proofs.lemmas.Result.{err_from_is_err_and, MatchResult-weaker}
use Rattle.x25_clock.specs.Clock.{next_of}
use Rattle.x25_io.specs.code.Written.{AppendsPrefix, Tells}
use Rattle.x25_station.specs.Station.Told.{awaits_answers, is_idle}
use Rattle.x25_pipe.specs.Timed.{next_line}
use Rattle.x25_pipe.proofs.timed.TimedPipe.mark.Goals as goal

pub returns-in_err-tell_next-clause-turns : goal.returns-in_err-tell_next-clause-turns
returns-in_err-tell_next-clause-turns g c = λ k times old w told refused h.
    let p = err_from_is_err_and c.from_residual.result c.from_residual.ensures.1 in
    let s = w.station in
    let line = ap (λ n. next_line n c.idle-is_idle.result c.awaits_answers-is_due.result) (c.next-next.ensures ∙ ap next_of h.deadlines)
    ∙ ap₂ (λ a b. next_line (next_of w.deadlines) a b) (c.idle-is_idle.ensures k s h.pipe.fits) (c.awaits_answers-is_due.ensures k s h.pipe.fits) in
    rw p.1 (subst (λ t. AppendsPrefix old (g.W.Sink.contents c.tell_next.new.writer) (told ++ t)) line (c.in_err-tell_next.ensures.tells old told h.pipe.tells))

pub returns-clause-turns : goal.returns-clause-turns
returns-clause-turns g c = λ k times old w told refused h.
    let s = w.station in
    let line = ap (λ n. next_line n c.idle-is_idle.result c.awaits_answers-is_due.result) (c.next-next.ensures ∙ ap next_of h.deadlines)
    ∙ ap₂ (λ a b. next_line (next_of w.deadlines) a b) (c.idle-is_idle.ensures k s h.pipe.fits) (c.awaits_answers-is_due.ensures k s h.pipe.fits) in
    let text = told ++ next_line (next_of w.deadlines) (is_idle k s) (awaits_answers k s) in
    MatchResult-weaker c.flush.result
    (c.flush.ensures.stands k old s text (refused || false)
    (record {
      fits = h.pipe.fits;
      role = h.pipe.role;
      tells = subst (λ t. Tells old (g.W.Sink.contents c.tell_next.new.writer) c.tell_next.new.output (told ++ t)) line
          (c.in_ok-tell_next.ensures.tells old told h.pipe.tells);
      status = h.pipe.status ∙ sym (or-false refused);
    }))
    (λ _ stands. record { pipe = stands; deadlines = h.deadlines; timers = h.timers; channels = h.channels; time = h.time })
    (λ _ b. b)
