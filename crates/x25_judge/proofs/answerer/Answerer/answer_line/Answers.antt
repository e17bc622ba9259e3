use Rattle.std.proofs.{Common.{◌≡◌, ◌∙◌, ◌<◌, ◌≤◌, ◌++◌, ◌||◌, length, ap, sym, subst, refl}, Math.Bool.{or-true}}
use Rattle.std.specs.Prelude.{MatchOption, MatchResult}
use Rattle.std.proofs.lemmas.Result.{on_ok_weaker}
use Rattle.x25_io.specs.HeldLine.{most_line}
use Rattle.x25_io.specs.code.Written.{AppendsPrefix, Tells}
use Rattle.x25_judge.specs.{Answerer.{reply}, Judge.{Answer}}
use Rattle.x25_judge.specs.code.Stream.{Replies}
use Rattle.x25_judge.proofs.LineLemmas.{long_reply}
use Rattle.x25_judge.proofs.answerer.Answerer.answer_line.Goals as goal

pub returns-in-Some-clause-replies : goal.returns-in-Some-clause-replies
returns-in-Some-clause-replies g c = λ first line.
    let s = c.args.self.now in
    let is = subst (λ o. MatchOption o (most_line < length first) (λ held. (held.now ≡ first) × (length first ≤ most_line))) c.in-Some.is line in
    subst (λ l. Replies c.answer_parts.result (g.W.Sink.contents c.args.writer.now) (g.W.Sink.contents c.answer_parts.new.writer) s c.answer_parts.new.self
    (reply s.loose s.judge l)) is.0
    (c.answer_parts.ensures.replies (subst (λ l. length l ≤ most_line) (sym is.0) is.1))

pub returns-in-None-clause-replies : goal.returns-in-None-clause-replies
returns-in-None-clause-replies g c = λ first line.
    let s = c.args.self.now in
    let long = subst (λ o. MatchOption o (most_line < length first) (λ held. (held.now ≡ first) × (length first ≤ most_line))) c.in-None.is line in
    let nothing = c.long_lines_send_nothing.ensures in
    let is = long_reply s.loose s.judge first long (nothing.sent first long) (nothing.gap first long) in
    let next = g.W.Sink.contents c.tell.new.writer in
    record {
      tells = λ old told h. subst (λ (a : Answer). MatchResult c.tell.result (λ _. Tells old next c.tell.new.self (told ++ a.text))
          (λ _. AppendsPrefix old next (told ++ a.text)))
          (sym is) (c.tell.ensures.tells old told h);
      next = on_ok_weaker c.tell.result (λ _. sym (ap (λ (a : Answer). a.next) is)) c.tell.ensures.kept;
      is_faulty = on_ok_weaker c.tell.result (λ _. sym (ap (λ (a : Answer). s.is_faulty || a.counts) is ∙ or-true s.is_faulty)) c.tell.ensures.kept;
      reads = refl;
    }
