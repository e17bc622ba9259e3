use Rattle.std.proofs.Common.{◌∙◌, ◌++◌, ◌∷◌, [], ap, sym, subst}
use Rattle.std.proofs.lemmas.List.{append-nil}
use Rattle.std.proofs.lemmas.Result.{err_from_is_err_and}
use Rattle.x25_bits.specs.FrameCheck.{bits_of}
use Rattle.x25_bits.specs.code.Plain.{listed_span, plain_span}
use Rattle.x25_bits.specs.Found.{found_of}
use Rattle.x25_io.specs.code.Written.{AppendsPrefix, Tells}
use Rattle.x25_bit_line.specs.Deframing.{class_line, class_lines}
use Rattle.x25_bit_line.proofs.ReadsLemmas.{told_more, told_part}
use Rattle.x25_bit_line.proofs.spans.take_span.Goals as goal

pub returns-in_default-clause-reads : goal.returns-in_default-clause-reads
returns-in_default-clause-reads g c = λ old before h.
    told_more c.cuts_agree.ensures.begins c.args.lines.now.from old _ before _ _ _ []
    (sym (ap listed_span c.in_default.is) ∙ c.feed_next_octets.ensures.found before h.fits) (c.feed_next_octets.follows.holds-at-none.1 before h.fits)
    (subst (Tells old (g.W.Sink.contents c.args.writer.now) c.args.lines.now.output) (sym (append-nil (class_lines c.args.lines.now.from (found_of before))))
    h.tells)

pub returns-in_err-tell-clause-reads : goal.returns-in_err-tell-clause-reads
returns-in_err-tell-clause-reads g c = λ old before h.
    let p = err_from_is_err_and c.from_residual.result c.from_residual.ensures.1 in
    let from = c.args.lines.now.from in
    rw p.1 (told_part c.cuts_agree.ensures.begins from old _ before c.args.at c.feed_next_octets.result.0 (bits_of c.args.octets.now)
    (plain_span c.in-Some.span ∷ [])
    (sym (ap listed_span c.in-Some.is) ∙ c.feed_next_octets.ensures.found before h.fits)
    (subst (λ l. AppendsPrefix old (g.W.Sink.contents c.tell.new.writer) (class_lines from (found_of before) ++ l))
    (sym (append-nil (class_line from (plain_span c.in-Some.span))))
    (c.in_err-tell.ensures.tells old _ h.tells)))

pub returns-clause-reads : goal.returns-clause-reads
returns-clause-reads g c = λ old before h.
    let from = c.args.lines.now.from in
    told_more c.cuts_agree.ensures.begins from old _ before _ _ _ (plain_span c.in-Some.span ∷ [])
    (sym (ap listed_span c.in-Some.is) ∙ c.feed_next_octets.ensures.found before h.fits) (c.feed_next_octets.follows.holds-at-none.1 before h.fits)
    (subst (λ l. Tells old (g.W.Sink.contents c.tell.new.writer) c.tell.new.self.output (class_lines from (found_of before) ++ l))
    (sym (append-nil (class_line from (plain_span c.in-Some.span))))
    (c.in_ok-tell.ensures.tells old _ h.tells))
