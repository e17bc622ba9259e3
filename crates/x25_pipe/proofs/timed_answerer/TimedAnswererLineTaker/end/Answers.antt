use Rattle.std.proofs.Common.{◌≡◌, ◌∙◌, Bool, [], true, false, ap, refl, if◌then◌else◌}
use Rattle.std.proofs.lemmas.Result.{err_from_is_err_and}
use mir.Val.{bool_byte}
use Rattle.x25_pipe.specs.Timed.{timed, timed_turns}
use Rattle.x25_pipe.specs.code.TimedStands.{StandsTimed}
use Rattle.x25_pipe.proofs.TimedLemmas.{left_begun, left_written, whole_told}
use Rattle.x25_pipe.proofs.timed_answerer.TimedAnswererLineTaker.end.Goals as goal

byte_is : (b : Bool) → bool_byte b ≡ (if b then 1 else 0)
byte_is true = refl
byte_is false = refl

pub returns-in_err-flush-clause-all : goal.returns-in_err-flush-clause-all
returns-in_err-flush-clause-all g c = λ setting old input l.
    let k = setting.0 in
    let times = setting.1 in
    let q = err_from_is_err_and c.from_residual.result c.from_residual.ensures.1 in
    let p = c.args.self.now.timed in
    rw q.1 (left_begun k times old _ _ p p [] false (timed k times input) (timed_turns k times []) l
    (c.in_err-flush.ensures.stands k old l.at.station l.text l.status l.stands.pipe))

pub returns-clause-all : goal.returns-clause-all
returns-clause-all g c = λ setting old input l.
    let k = setting.0 in
    let times = setting.1 in
    let whole = timed k times input in
    let p = c.args.self.now.timed in
    let stands : StandsTimed k times old (g.W.Sink.contents c.flush.new.writer) (record p { pipe = c.flush.new.self }) l.at l.text l.status =
    record {
      pipe = c.in_ok-flush.ensures.stands k old l.at.station l.text l.status l.stands.pipe;
      deadlines = l.stands.deadlines;
      timers = l.stands.timers;
      channels = l.stands.channels;
      time = l.stands.time;
    } in
    let done = whole_told k times old _ _ whole (left_written k times old _ _ p _ [] false whole (timed_turns k times []) l stands)
    c.in_ok-flush.ensures.written in
    (done.0, c.from.ensures ∙ ap bool_byte (c.is_refused.ensures ∙ done.1) ∙ byte_is _)
