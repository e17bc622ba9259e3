use Rattle.std.proofs.Common.{◌++◌, append_assoc, take, map, subst}
use Rattle.std.proofs.lemmas.Result.{err_from_is_err_and}
use Rattle.x25_io.specs.code.Written.{AppendsPrefix}
use Rattle.x25_pipe.specs.Pipe.{sends, saying_line, sayings_text}
use Rattle.x25_io.proofs.ToldLemmas.{part_of_all}
use Rattle.x25_pipe.proofs.SayingLemmas.{all_parts}
use Rattle.x25_pipe.proofs.telling.tell_frames.Goals as goal

pub returns-in_err-tell_frame-clause-tells : goal.returns-in_err-tell_frame-clause-tells
unfolding saying_line
returns-in_err-tell_frame-clause-tells g c = λ old told h.
    let p = err_from_is_err_and c.from_residual.result c.from_residual.ensures.1 in
    let end = c.args.end in
    let frame = c.frame-item.result in
    let written = g.W.Sink.contents c.tell_frame.new.writer in
    let first = sayings_text end (map sends (map (λ frame. frame.items) (take c.loop-frame.frame-index c.args.frames.now))) in
    let begun = subst (λ octets. AppendsPrefix old written ((told ++ first) ++ saying_line end (sends octets))) c.as_slice.ensures.value
    (c.in_err-tell_frame.ensures.tells old (told ++ first) (c.loop-frame.invariant.1 old told h)) in
    rw p.1 (part_of_all old _ told (first ++ saying_line end (sends frame.items)) _ _
    (all_parts end (λ frame. frame.items) sends c.args.frames.now c.loop-frame.frame-index frame c.loop-frame-test.true c.frame-item.is)
    (subst (AppendsPrefix old written) (append_assoc told first _) begun))
