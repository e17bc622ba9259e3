use Rattle.std.proofs.Common.{◌≡◌, ◌∙◌, ◌<◌, ◌≤◌, ◌++◌, ap, sym, subst, length, codes}
use Rattle.std.proofs.Math.Bool.{or-false, or-true}
use Rattle.std.specs.Prelude.{◌||◌, MatchOption, MatchResult}
use Rattle.x25_io.specs.{HeldLine.{most_line}, code.Written.{TellsMore}}
use Rattle.x25_records.proofs.RecordLemmas.{is_short, is_too_long, long_answer, short_answer}
use Rattle.x25_records.specs.Records.{record_of}
use Rattle.x25_records.proofs.recorder.Recorder.answer.Goals as goal

pub returns-in-Some-clause-tells : goal.returns-in-Some-clause-tells
returns-in-Some-clause-tells g c = λ first line.
    let is = subst (λ o. MatchOption o (most_line < length first) (λ held. (held.now ≡ first) × (length first ≤ most_line))) c.in-Some.is line in
    subst (λ t. TellsMore c.tell_record.result (g.W.Sink.contents c.args.writer.now) (g.W.Sink.contents c.tell_record.new.writer) c.args.self.now.output
    c.tell_record.new.self.output t)
    (ap (λ l. record_of l ++ codes "\n") is.0 ∙ sym (short_answer first is.1))
    c.tell_record.ensures.tells

pub returns-in-Some-clause-refused : goal.returns-in-Some-clause-refused
returns-in-Some-clause-refused g c = λ first line.
    let is = subst (λ o. MatchOption o (most_line < length first) (λ held. (held.now ≡ first) × (length first ≤ most_line))) c.in-Some.is line in
    c.tell_record.ensures.refused ∙ sym (ap (λ b. c.args.self.now.is_refused || b) (is_short first is.1) ∙ or-false c.args.self.now.is_refused)

pub returns-in-None-clause-tells : goal.returns-in-None-clause-tells
returns-in-None-clause-tells g c = λ first line.
    let long = subst (λ o. MatchOption o (most_line < length first) (λ held. (held.now ≡ first) × (length first ≤ most_line))) c.in-None.is line in
    subst (λ t. TellsMore c.refuse.result (g.W.Sink.contents c.args.writer.now) (g.W.Sink.contents c.refuse.new.writer) c.args.self.now.output
    c.refuse.new.self.output t)
    (sym (long_answer first long)) c.refuse.ensures.tells

pub returns-in-None-clause-refused : goal.returns-in-None-clause-refused
returns-in-None-clause-refused g c = λ first line.
    let long = subst (λ o. MatchOption o (most_line < length first) (λ held. (held.now ≡ first) × (length first ≤ most_line))) c.in-None.is line in
    c.refuse.ensures.refused ∙ sym (ap (λ b. c.args.self.now.is_refused || b) (is_too_long first long) ∙ or-true c.args.self.now.is_refused)
