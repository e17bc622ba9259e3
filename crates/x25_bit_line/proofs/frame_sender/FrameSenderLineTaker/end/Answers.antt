use Rattle.std.proofs.Common.{◌≡◌, ◌∙◌, Bool, true, false, ap, refl, subst, if◌then◌else◌}
use Rattle.std.proofs.lemmas.Result.{err_from_is_err_and}
use Rattle.std.specs.Io.KnownBytes.{Appends}
use mir.Val.{bool_byte}
use Rattle.x25_bits.specs.Found.{octets_of}
use Rattle.x25_bits.specs.Stuffing.{filled}
use Rattle.x25_io.specs.code.Written.{AppendsPrefix}
use Rattle.x25_bit_line.proofs.FramesLemmas.{none_left}
use Rattle.x25_bit_line.proofs.frame_sender.FrameSenderLineTaker.end.Goals as goal

byte_is : (b : Bool) → bool_byte b ≡ (if b then 1 else 0)
byte_is true = refl
byte_is false = refl

pub returns-in_err-finish-clause-all : goal.returns-in_err-finish-clause-all
returns-in_err-finish-clause-all g c = λ setting old input h.
    let p = err_from_is_err_and c.from_residual.result c.from_residual.ensures.1 in
    let done = none_left old _ input c.args.self.now h in
    rw p.1 (subst (λ bits. AppendsPrefix old (g.W.Sink.contents c.finish.new.writer) (octets_of (filled bits))) done.0
    (c.in_err-finish.ensures.text old h.bits h.sends))

pub returns-clause-all : goal.returns-clause-all
returns-clause-all g c = λ setting old input h.
    let done = none_left old _ input c.args.self.now h in (
      subst (λ bits. Appends old (g.W.Sink.contents c.finish.new.writer) (octets_of (filled bits))) done.0 (c.in_ok-finish.ensures.text old h.bits h.sends),
      c.from.ensures ∙ ap bool_byte (c.finish.ensures.wrong ∙ done.1) ∙ byte_is _,
    )
