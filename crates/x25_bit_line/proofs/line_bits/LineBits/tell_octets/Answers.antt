use Rattle.std.proofs.Common.{◌∙◌, ◌++◌, ◌∷◌, [], ap, sym, subst, refl, arith}
use Rattle.std.proofs.lemmas.List.{append-nil}
use Rattle.std.proofs.lemmas.Result.{err_from_is_err_and}
use Rattle.x25_bits.specs.Found.{octets_by}
use Rattle.x25_io.specs.code.Written.{Tells}
use Rattle.x25_bit_line.proofs.SendingLemmas.{octets_lost, octets_told}
use Rattle.x25_bit_line.proofs.line_bits.LineBits.tell_octets.Goals as goal

pub loop-index-init : goal.loop-index-init
unfolding octets_by
loop-index-init g c = (refl, λ old told h. subst (Tells old _ _) (sym (append-nil told)) h)

pub loop-index-preserved : goal.loop-index-preserved
loop-index-preserved g c = (
  c.in_ok-tell.ensures.kept ∙ c.loop-index.invariant.0,
  λ old told h.
      subst (Tells old (g.W.Sink.contents c.tell.new.writer) c.tell.new.self)
      (ap (λ o. (told ++ octets_by c.loop-index.index c.args.self.now.bits) ++ o ∷ []) c.octet_at-octet.ensures
      ∙ octets_told told c.loop-index.index c.args.self.now.bits)
      (c.in_ok-tell.ensures.tells old (told ++ octets_by c.loop-index.index c.args.self.now.bits) (c.loop-index.invariant.1 old told h)),
)

pub returns-in_err-tell-clause-tells : goal.returns-in_err-tell-clause-tells
returns-in_err-tell-clause-tells g c = λ old told h.
    let p = err_from_is_err_and c.from_residual.result c.from_residual.ensures.1 in
    rw p.1 (octets_lost old _ told c.loop-index.index _ c.octet_at-octet.result c.args.self.now.bits (omega arith) c.octet_at-octet.ensures
    (c.in_err-tell.ensures.tells old (told ++ octets_by c.loop-index.index c.args.self.now.bits) (c.loop-index.invariant.1 old told h)))
