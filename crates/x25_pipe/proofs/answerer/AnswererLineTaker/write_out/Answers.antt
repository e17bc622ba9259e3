use Rattle.std.proofs.Common.{[], false}
use Rattle.std.proofs.lemmas.Result.{MatchResult-weaker}
use Rattle.x25_io.proofs.ToldLemmas.{with_ok}
use Rattle.x25_pipe.specs.Pipe.{piped, turns}
use Rattle.x25_pipe.proofs.LeaveLemmas.{given_up}
use Rattle.x25_pipe.proofs.StreamLemmas.{ended_written, left_begun, left_written}
use Rattle.x25_pipe.proofs.answerer.AnswererLineTaker.write_out.Goals as goal

pub returns-clause-on : goal.returns-clause-on
returns-clause-on g c = λ k old lines input l.
    let whole = piped k input in
    MatchResult-weaker c.flush.result (with_ok c.flush.result _ _ _ (c.flush.ensures.stands k old l.at l.text l.status l.stands) c.flush.ensures.written)
    (λ _ t. let left = left_written k old _ _ whole c.args.self.now.pipe c.flush.new.self (turns k lines) l t.0 in (
      left,
      ended_written k old _ _ whole c.args.self.now.pipe c.flush.new.self lines l t.1 t.0,
      given_up k old _ old c.flush.new.self c.flush.new.self [] false whole _ left,
    ))
    (λ _ begins. left_begun k old _ _ whole c.args.self.now.pipe (turns k lines) l begins)
