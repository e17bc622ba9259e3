use Rattle.std.proofs.Common.{[], false}
use Rattle.std.proofs.lemmas.Result.{MatchResult-weaker}
use Rattle.x25_io.proofs.ToldLemmas.{with_ok}
use Rattle.x25_pipe.specs.Timed.{timed, timed_turns}
use Rattle.x25_pipe.specs.code.TimedStands.{StandsTimed}
use Rattle.x25_pipe.proofs.TimedLemmas.{ended_written, given_up, left_begun, left_written}
use Rattle.x25_pipe.proofs.timed_answerer.TimedAnswererLineTaker.write_out.Goals as goal

pub returns-clause-on : goal.returns-clause-on
returns-clause-on g c = λ setting old lines input l.
    let k = setting.0 in
    let times = setting.1 in
    let whole = timed k times input in
    let p = c.args.self.now.timed in
    MatchResult-weaker c.flush.result (with_ok c.flush.result _ _ _ (c.flush.ensures.stands k old l.at.station l.text l.status l.stands.pipe)
    c.flush.ensures.written)
    (λ _ t.
    let stands : StandsTimed k times old (g.W.Sink.contents c.flush.new.writer) (record p { pipe = c.flush.new.self }) l.at l.text l.status =
    record { pipe = t.0; deadlines = l.stands.deadlines; timers = l.stands.timers; channels = l.stands.channels; time = l.stands.time } in
    let left = left_written k times old _ _ p _ [] false whole (timed_turns k times lines) l stands in (
      left,
      ended_written k times old _ _ whole p _ lines l t.1 stands,
      given_up k times old _ old _ p [] false whole _ left,
    ))
    (λ _ begins. left_begun k times old _ _ p p [] false whole (timed_turns k times lines) l begins)
