use Rattle.std.proofs.Common.{◌≡◌, ◌∙◌, Bool, true, false, ap, refl, if◌then◌else◌}
use mir.Val.{bool_byte}
use Rattle.x25_judge.proofs.StreamLemmas.{ended, end_failed}
use Rattle.x25_judge.proofs.answerer.AnswererLineTaker.end.Goals as goal

byte_is : (b : Bool) → bool_byte b ≡ (if b then 1 else 0)
byte_is true = refl
byte_is false = refl

pub returns-in-Ok-clause-all : goal.returns-in-Ok-clause-all
returns-in-Ok-clause-all g c = λ s old input h.
    let done = ended s.0 s.1 old _ _ input c.args.self.now c.finish.new.self.output h (c.in-Ok.ensures.tells old h.told h.tells) c.in-Ok.ensures.empty in
    (done.0, c.from.ensures ∙ ap bool_byte (c.fails-fails.ensures ∙ done.1) ∙ byte_is _)

pub returns-in-Err-clause-all : goal.returns-in-Err-clause-all
returns-in-Err-clause-all g c = λ s old input h. end_failed s.0 s.1 old _ _ input c.args.self.now h (c.in-Err.ensures.tells old h.told h.tells)
