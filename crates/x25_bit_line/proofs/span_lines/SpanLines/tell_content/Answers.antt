use Rattle.std.proofs.Common.{◌∙◌, ◌++◌, ◌∷◌, [], ap, sym, subst, append_assoc}
use Rattle.std.specs.Prelude.{MatchResult}
use Rattle.std.specs.List.{flat_map}
use Rattle.std.proofs.lemmas.Result.{err_from_is_err_and}
use Rattle.x25_decode.specs.Decoding.{mark_of}
use Rattle.x25_io.specs.code.Written.{AppendsPrefix, Tells}
use Rattle.x25_io.proofs.ToldLemmas.{part_of_all}
use Rattle.x25_text.specs.Text.{octet_text}
use Rattle.x25_bit_line.proofs.span_lines.SpanLines.tell_content.Goals as goal

pub returns-in_err-tell-clause-tells : goal.returns-in_err-tell-clause-tells
returns-in_err-tell-clause-tells g c = λ old told h.
    let p = err_from_is_err_and c.from_residual.result c.from_residual.ensures.1 in
    let digits = flat_map octet_text c.args.octets.now in
    rw p.1 (part_of_all old _ told c.mark.result.now (digits ++ 10 ∷ []) _
    (append_assoc (mark_of c.args.self.now.from) digits (10 ∷ []) ∙ ap (λ m. m ++ (digits ++ 10 ∷ [])) (sym c.mark.ensures.mark))
    (c.in_err-tell.ensures.tells old told h))

pub returns-in_err-tell_digits-clause-tells : goal.returns-in_err-tell_digits-clause-tells
returns-in_err-tell_digits-clause-tells g c = λ old told h.
    let p = err_from_is_err_and c.from_residual-in_err-tell_digits.result c.from_residual-in_err-tell_digits.ensures.1 in
    let digits = flat_map octet_text c.args.octets.now in
    rw p.1 (part_of_all old _ told (c.mark.result.now ++ digits) (10 ∷ []) _ (ap (λ m. (m ++ digits) ++ 10 ∷ []) (sym c.mark.ensures.mark))
    (subst (AppendsPrefix old (g.W.Sink.contents c.tell_digits.new.writer)) (append_assoc told c.mark.result.now digits)
    (c.in_err-tell_digits.ensures.tells old (told ++ c.mark.result.now) (c.in_ok-tell.ensures.tells old told h))))

pub returns-clause-tells : goal.returns-clause-tells
returns-clause-tells g c = λ old told h.
    let digits = flat_map octet_text c.args.octets.now in
    subst (λ t. MatchResult c.tell-2.result (λ _. Tells old (g.W.Sink.contents c.tell-2.new.writer) c.tell-2.new.self t)
    (λ _. AppendsPrefix old (g.W.Sink.contents c.tell-2.new.writer) t))
    (ap (λ t. t ++ 10 ∷ []) (append_assoc told c.mark.result.now digits) ∙ append_assoc told (c.mark.result.now ++ digits) (10 ∷ [])
    ∙ ap (λ m. told ++ ((m ++ digits) ++ 10 ∷ [])) c.mark.ensures.mark)
    (c.tell-2.ensures.tells old ((told ++ c.mark.result.now) ++ digits)
    (c.in_ok-tell_digits.ensures.tells old (told ++ c.mark.result.now) (c.in_ok-tell.ensures.tells old told h)))
