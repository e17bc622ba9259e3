use Rattle.std.proofs.{Common.{◌∙◌}, lemmas.Result.{err_from_is_err_and}}
use Rattle.x25_decode.{proofs.StreamLemmas.{held_more, part_written, written}, specs.Decoding.{has_refused, output_of}}
use Rattle.x25_decode.proofs.decoder.DecoderTextTaker.take_piece.Goals as goal

pub returns-in_err-left-clause-on : goal.returns-in_err-left-clause-on
returns-in_err-left-clause-on g c = λ long old rest input h.
    let p = err_from_is_err_and c.from_residual.result c.from_residual.ensures.1 in
    rw p.1 (c.in_err-left.ensures.leads old rest (output_of long input) (has_refused input) h.1)

pub returns-clause-on : goal.returns-clause-on
returns-clause-on g c = λ long old rest input h.
    let more = held_more _ old _ old _ _ _ rest _ _ c.hold.new.self c.in_ok-left.left.now
    (c.in_ok-left.ensures.leads old rest (output_of long input) (has_refused input) h.1) c.in_ok-left.ensures.open (λ begun. c.hold.ensures begun) in
    (c.in_ok-left.ensures.reading ∙ h.0, written _ old _ _ _ _ _ rest _ _ _ more (c.in_ok-flush.ensures.tells old more.told more.tells))

pub returns-in_err-flush-clause-on : goal.returns-in_err-flush-clause-on
returns-in_err-flush-clause-on g c = λ long old rest input h.
    let p = err_from_is_err_and c.from_residual-in_err-flush.result c.from_residual-in_err-flush.ensures.1 in
    let more = held_more _ old _ old _ _ _ rest _ _ c.hold.new.self c.in_ok-left.left.now
    (c.in_ok-left.ensures.leads old rest (output_of long input) (has_refused input) h.1) c.in_ok-left.ensures.open (λ begun. c.hold.ensures begun) in
    rw p.1 (part_written _ old _ _ _ _ _ rest _ _ more (c.in_err-flush.ensures.tells old more.told more.tells))
