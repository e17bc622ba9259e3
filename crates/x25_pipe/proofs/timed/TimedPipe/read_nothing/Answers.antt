use Rattle.std.proofs.lemmas.Result.{err_from_is_err_and}
use Rattle.x25_pipe.specs.Pipe.{nothing_act}
use Rattle.x25_pipe.proofs.timed.TimedPipe.read_nothing.Goals as goal

pub returns-in_err-read_nothing-clause-turns : goal.returns-in_err-read_nothing-clause-turns
returns-in_err-read_nothing-clause-turns g c = λ k times old w told refused h.
    let p = err_from_is_err_and c.from_residual.result c.from_residual.ensures.1 in
    rw p.1 (c.in_err-read_nothing.ensures.acts k old w.station told refused h.pipe)

pub returns-clause-turns : goal.returns-clause-turns
returns-clause-turns g c = λ k times old w told refused h.
    c.heed.ensures k times old _ w told refused (nothing_act w.station) (c.in_ok-read_nothing.ensures.acts k old w.station told refused h.pipe) h.deadlines
    h.timers h.channels h.time
