use Rattle.x25_judge.proofs.StreamLemmas.{all_written, part_written}
use Rattle.x25_judge.proofs.answerer.AnswererLineTaker.write_out.Goals as goal

pub returns-in-Ok-clause-on : goal.returns-in-Ok-clause-on
returns-in-Ok-clause-on g c = λ s old lines input h. all_written s.0 s.1 old _ _ input c.args.self.now c.flush.new.self lines h
    (c.in-Ok.ensures.tells old h.told h.tells) c.in-Ok.ensures.empty

pub returns-in-Err-clause-on : goal.returns-in-Err-clause-on
returns-in-Err-clause-on g c = λ s old lines input h. part_written s.0 s.1 old _ _ input c.args.self.now lines h (c.in-Err.ensures.tells old h.told h.tells)
