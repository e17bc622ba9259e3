use Rattle.std.proofs.{Common.{◌≡◌, ◌∙◌, Bool, true, false, ap, refl, if◌then◌else◌}, lemmas.Result.{err_from_is_err_and}}
use Rattle.x25_records.proofs.RecordLemmas.{ended, part_written}
use mir.Val.{bool_byte}
use Rattle.x25_records.proofs.recorder.RecorderLineTaker.end.Goals as goal

byte_is : (b : Bool) → bool_byte b ≡ (if b then 1 else 0)
byte_is true = refl
byte_is false = refl

pub returns-clause-all : goal.returns-clause-all
returns-clause-all g c = λ _ old text h.
    let done = ended old _ _ text c.args.self.now c.flush.new.self h (c.in_ok-flush.ensures.tells old h.told h.tells) c.in_ok-flush.ensures.empty in
    (done.0, c.from.ensures ∙ ap bool_byte done.1 ∙ byte_is _)

pub returns-in_err-flush-clause-all : goal.returns-in_err-flush-clause-all
returns-in_err-flush-clause-all g c = λ _ old text h.
    let p = err_from_is_err_and c.from_residual.result c.from_residual.ensures.1 in
    rw p.1 (part_written old _ _ text c.args.self.now _ h (c.in_err-flush.ensures.tells old h.told h.tells))
