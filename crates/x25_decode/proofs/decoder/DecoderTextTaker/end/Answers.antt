use Rattle.std.proofs.{Common.{◌≡◌, ℕ, Bool, true, false, if◌then◌else◌}, lemmas.Result.{err_from_is_err_and}}
use Rattle.x25_decode.specs.Decoding.{has_refused, output_of}
use mir.Val.{bool_byte}
use Rattle.x25_decode.proofs.decoder.DecoderTextTaker.end.Goals as goal

status_is : (n : ℕ) (b any : Bool) → n ≡ bool_byte b → b ≡ any → n ≡ (if any then 1 else 0)
status_is n true any e same = rw (← same) e
status_is n false any e same = rw (← same) e

pub returns-clause-all : goal.returns-clause-all
returns-clause-all g c = λ long old input h.
    let end = c.in_ok-finish.ensures.text old (output_of long input) (has_refused input) h.1 in
    (end.0, status_is c.from.result c.finish.new.self.is_refused (has_refused input) c.from.ensures end.1)

pub returns-in_err-finish-clause-all : goal.returns-in_err-finish-clause-all
returns-in_err-finish-clause-all g c = λ long old input h.
    let p = err_from_is_err_and c.from_residual.result c.from_residual.ensures.1 in
    rw p.1 (c.in_err-finish.ensures.text old (output_of long input) (has_refused input) h.1)
