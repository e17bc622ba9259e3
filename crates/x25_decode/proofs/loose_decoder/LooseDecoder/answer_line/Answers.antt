use Rattle.std.proofs.{Common.{◌≡◌, ◌∙◌, ◌<◌, ◌≤◌, ◌++◌, ◌||◌, ap, sym, subst, length, codes}, Math.Bool.{or-true}, lemmas.Result.{on_ok_weaker}}
use Rattle.std.specs.Prelude.{MatchOption, MatchResult}
use Rattle.x25_decode.proofs.LooseLemmas.{long_answer, long_refused}
use Rattle.x25_io.specs.{HeldLine.{most_line}, code.Written.{AppendsPrefix, Tells}}
use Rattle.x25_decode.proofs.loose_decoder.LooseDecoder.answer_line.Goals as goal

pub returns-in-None-clause-tells : goal.returns-in-None-clause-tells
returns-in-None-clause-tells g c = λ first line old told h.
    let long = subst (λ o. MatchOption o (most_line < length first) (λ held. (held.now ≡ first) × (length first ≤ most_line))) c.in-None.is line in
    let next = g.W.Sink.contents c.refuse.new.writer in
    subst (λ t. MatchResult c.refuse.result (λ _. Tells old next c.refuse.new.self.output (told ++ t)) (λ _. AppendsPrefix old next (told ++ t)))
    (sym (long_answer c.args.self.now.reading first long (c.long_lines_send_nothing.ensures.sent first long)
    (c.long_lines_send_nothing.ensures.gap first long))) (c.refuse.ensures.tells old told h)

pub returns-in-None-clause-refused : goal.returns-in-None-clause-refused
returns-in-None-clause-refused g c = λ first line.
    let long = subst (λ o. MatchOption o (most_line < length first) (λ held. (held.now ≡ first) × (length first ≤ most_line))) c.in-None.is line in
    on_ok_weaker c.refuse.result
    (λ _. c.refuse.ensures.refused
    ∙ sym (ap (λ b. c.args.self.now.is_refused || b)
    (long_refused first long (c.long_lines_send_nothing.ensures.sent first long) (c.long_lines_send_nothing.ensures.gap first long))
    ∙ or-true c.args.self.now.is_refused)) c.refuse.ensures.kept
