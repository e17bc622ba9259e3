use Rattle.std.proofs.lemmas.Result.{err_from_is_err_and}
use Rattle.x25_records.proofs.RecordLemmas.{all_written, part_written}
use Rattle.x25_records.proofs.recorder.RecorderLineTaker.write_out.Goals as goal

pub returns-clause-on : goal.returns-clause-on
returns-clause-on g c = λ _ old lines text h. all_written old _ _ text c.args.self.now c.flush.new.self lines h
    (c.in_ok-flush.ensures.tells old h.told h.tells) c.in_ok-flush.ensures.empty

pub returns-in_err-flush-clause-on : goal.returns-in_err-flush-clause-on
returns-in_err-flush-clause-on g c = λ _ old lines text h.
    let p = err_from_is_err_and c.from_residual.result c.from_residual.ensures.1 in
    rw p.1 (part_written old _ _ text c.args.self.now lines h (c.in_err-flush.ensures.tells old h.told h.tells))
