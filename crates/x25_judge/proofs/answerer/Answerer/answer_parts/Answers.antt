use Rattle.std.proofs.{Common.{◌≡◌, ◌∙◌, ◌||◌, None, Some, ap, sym, subst, refl}, Math.Bool.{or-false}}
use Rattle.std.specs.Prelude.{MatchOption}
use Rattle.std.proofs.lemmas.Result.{err_from_is_err_and, on_ok_weaker}
use Rattle.x25_io.specs.Loose.{asked}
use Rattle.x25_io.proofs.ToldLemmas.{part_of_all}
use Rattle.x25_judge.specs.Answerer.{reply, reply_to}
use Rattle.x25_judge.proofs.LineLemmas.{reply_counts, reply_next, reply_text, told_behind}
use Rattle.x25_judge.proofs.answerer.Answerer.answer_parts.Goals as goal

pub returns-in_err-tell-clause-replies : goal.returns-in_err-tell-clause-replies
returns-in_err-tell-clause-replies g c = λ few.
    let p = err_from_is_err_and c.from_residual.result c.from_residual.ensures.1 in
    let s = c.args.self.now in
    let line = c.args.line.now in
    let head = c.split_loose.result.0.now in
    record {
      tells = λ old told h. rw p.1 (part_of_all old _ told head (reply_to s.judge (asked s.loose line)).text (reply s.loose s.judge line).text
          (reply_text s.loose s.judge line head (asked s.loose line) (c.split_loose.ensures.carried few) refl) (c.in_err-tell.ensures.tells old told h));
      next = rw p.1 tt;
      is_faulty = rw p.1 tt;
      reads = refl;
    }

pub returns-in-Some-clause-replies : goal.returns-in-Some-clause-replies
returns-in-Some-clause-replies g c = λ few.
    let s = c.args.self.now in
    let line = c.args.line.now in
    let part = c.in-Some.line.now in
    let head = c.split_loose.result.0.now in
    let found = subst (λ o. MatchOption o (asked s.loose line ≡ None) (λ found. asked s.loose line ≡ Some found.now)) c.in-Some.is
    (c.split_loose.ensures.asked few) in
    let answered = c.answer_asked.ensures in
    record {
      tells = λ old told h. told_behind c.answer_asked.result old _ _ told head (reply_to s.judge (Some part)).text (reply s.loose s.judge line).text
          (reply_text s.loose s.judge line head (Some part) (c.split_loose.ensures.carried few) found)
          (answered.tells old _ (c.in_ok-tell.ensures.tells old told h));
      next = on_ok_weaker c.answer_asked.result (λ e. e ∙ sym (reply_next s.loose s.judge line (Some part) found)) answered.next;
      is_faulty = on_ok_weaker c.answer_asked.result
          (λ e. e ∙ ap (λ b. s.is_faulty || b) (sym (reply_counts s.loose s.judge line (Some part) found))) answered.is_faulty;
      reads = answered.loose;
    }

pub returns-in-None-clause-replies : goal.returns-in-None-clause-replies
returns-in-None-clause-replies g c = λ few.
    let s = c.args.self.now in
    let line = c.args.line.now in
    let head = c.split_loose.result.0.now in
    let none = subst (λ o. MatchOption o (asked s.loose line ≡ None) (λ found. asked s.loose line ≡ Some found.now)) c.in-None.is
    (c.split_loose.ensures.asked few) in
    let told = c.tell-in-None.ensures in
    record {
      tells = λ old before h. told_behind c.tell-in-None.result old _ _ before head (reply_to s.judge None).text (reply s.loose s.judge line).text
          (reply_text s.loose s.judge line head None (c.split_loose.ensures.carried few) none)
          (told.tells old _ (c.in_ok-tell.ensures.tells old before h));
      next = on_ok_weaker c.tell-in-None.result (λ _. sym (reply_next s.loose s.judge line None none)) told.kept;
      is_faulty = on_ok_weaker c.tell-in-None.result
          (λ _. sym (ap (λ b. s.is_faulty || b) (reply_counts s.loose s.judge line None none) ∙ or-false s.is_faulty)) told.kept;
      reads = refl;
    }
