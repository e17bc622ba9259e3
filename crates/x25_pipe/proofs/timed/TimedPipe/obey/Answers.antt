use Rattle.std.proofs.lemmas.Result.{err_from_is_err_and}
use Rattle.x25_pipe.specs.Pipe.{asked_act, event_in}
use Rattle.x25_pipe.proofs.timed.TimedPipe.obey.Goals as goal

pub returns-in_err-answer-clause-turns : goal.returns-in_err-answer-clause-turns
returns-in_err-answer-clause-turns g c = λ k times old text line w told refused h.
    let p = err_from_is_err_and c.from_residual.result c.from_residual.ensures.1 in
    rw p.1 (c.in_err-answer.ensures.acts k old text line w.station told refused h.pipe)

pub returns-clause-turns : goal.returns-clause-turns
returns-clause-turns g c = λ k times old text line w told refused h.
    c.heed.ensures k times old _ w told refused (asked_act k w.station (event_in k.wide k.role text))
    (c.in_ok-answer.ensures.acts k old text line w.station told refused h.pipe) h.deadlines h.timers h.channels h.time
