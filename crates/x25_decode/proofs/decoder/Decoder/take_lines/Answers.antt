use Rattle.std.proofs.lemmas.Result.{err_from_is_err_and}
use Rattle.x25_decode.proofs.decoder.Decoder.take_lines.Goals as goal

pub returns-in_err-after-clause-leads : goal.returns-in_err-after-clause-leads
returns-in_err-after-clause-leads g c = λ old rest all any h.
    let p = err_from_is_err_and c.from_residual.result c.from_residual.ensures.1 in
    rw p.1 (c.in_err-after.ensures.leads old rest all any (c.loop-after.invariant.2 old rest all any h))
