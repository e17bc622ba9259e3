use Rattle.std.proofs.lemmas.Result.{err_from_is_err_and}
use Rattle.x25_io.proofs.ToldLemmas.{told_prefix}
use Rattle.x25_bit_line.proofs.line_bits.LineBits.send.Goals as goal

pub returns-in_err-tell_octets-clause-tells : goal.returns-in_err-tell_octets-clause-tells
returns-in_err-tell_octets-clause-tells g c = λ old told h.
    let p = err_from_is_err_and c.from_residual.result c.from_residual.ensures.1 in
    rw p.1 (c.in_err-tell_octets.ensures.tells old told h)

pub returns-in_err-self-clause-tells : goal.returns-in_err-self-clause-tells
returns-in_err-self-clause-tells g c = λ old told h.
    let p = err_from_is_err_and c.from_residual-in_err-self.result c.from_residual-in_err-self.ensures.1 in
    rw p.1 (told_prefix old _ _ _ (c.in_ok-tell_octets.ensures.tells old told h))
