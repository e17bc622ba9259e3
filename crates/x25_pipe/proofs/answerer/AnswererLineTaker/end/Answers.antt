use Rattle.std.proofs.Common.{◌≡◌, ◌∙◌, Bool, [], true, false, ap, refl, if◌then◌else◌}
use Rattle.std.proofs.lemmas.Result.{err_from_is_err_and}
use mir.Val.{bool_byte}
use Rattle.x25_pipe.specs.Pipe.{piped, turns}
use Rattle.x25_pipe.proofs.StreamLemmas.{left_begun, left_written, whole_told}
use Rattle.x25_pipe.proofs.answerer.AnswererLineTaker.end.Goals as goal

byte_is : (b : Bool) → bool_byte b ≡ (if b then 1 else 0)
byte_is true = refl
byte_is false = refl

pub returns-in_err-flush-clause-all : goal.returns-in_err-flush-clause-all
returns-in_err-flush-clause-all g c = λ k old input l.
    let p = err_from_is_err_and c.from_residual.result c.from_residual.ensures.1 in
    rw p.1 (left_begun k old _ _ (piped k input) c.args.self.now.pipe (turns k []) l (c.in_err-flush.ensures.stands k old l.at l.text l.status l.stands))

pub returns-clause-all : goal.returns-clause-all
returns-clause-all g c = λ k old input l.
    let whole = piped k input in
    let done = whole_told k old _ c.flush.new.self whole
    (left_written k old _ _ whole c.args.self.now.pipe c.flush.new.self (turns k []) l (c.in_ok-flush.ensures.stands k old l.at l.text l.status l.stands))
    c.in_ok-flush.ensures.written in
    (done.0, c.from.ensures ∙ ap bool_byte (c.is_refused.ensures ∙ done.1) ∙ byte_is _)
