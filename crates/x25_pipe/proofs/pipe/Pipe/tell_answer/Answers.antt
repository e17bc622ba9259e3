use Rattle.std.proofs.Common.{◌∙◌, ◌++◌, map, ap, subst}
use Rattle.std.proofs.lemmas.Result.{err_from_is_err_and, MatchResult-weaker}
use Rattle.x25_io.specs.code.Written.{AppendsPrefix, Tells}
use Rattle.x25_io.proofs.ToldLemmas.{part_of_all}
use Rattle.x25_pipe.specs.Pipe.{enters, sends, sayings_text}
use Rattle.x25_pipe.proofs.SayingLemmas.{text-append, parts_text, entries_said}
use Rattle.x25_pipe.proofs.pipe.Pipe.tell_answer.Goals as goal

pub returns-in_err-tell_entries-clause-tells : goal.returns-in_err-tell_entries-clause-tells
returns-in_err-tell_entries-clause-tells g c = λ old told h.
    let p = err_from_is_err_and c.from_residual.result c.from_residual.ensures.1 in
    let end = c.args.self.now.end in
    let step = c.args.self.now.step in
    rw p.1 (part_of_all old _ told _ _ _ (text-append end (map enters step.entries.items) (map sends step.frames))
    (subst (λ text. AppendsPrefix old (g.W.Sink.contents c.tell_entries.new.writer) (told ++ text))
    (entries_said end step.entries.items)
    (c.in_err-tell_entries.ensures.tells old told h)))

pub returns-clause-tells : goal.returns-clause-tells
returns-clause-tells g c = λ old told h.
    let end = c.args.self.now.end in
    let step = c.args.self.now.step in
    let both =
    ap (λ frames. (told ++ sayings_text end (map enters step.entries.items)) ++ sayings_text end (map sends frames))
    c.as_slice-frames.ensures.frames
    ∙ parts_text end told (map enters step.entries.items) (map sends step.frames) in
    let entered = subst (λ text. Tells old (g.W.Sink.contents c.tell_entries.new.writer) c.tell_entries.new.output (told ++ text))
    (entries_said end step.entries.items)
    (c.in_ok-tell_entries.ensures.tells old told h) in
    MatchResult-weaker c.tell_frames.result (c.tell_frames.ensures.tells old _ entered)
    (λ _ tells. subst (Tells old (g.W.Sink.contents c.tell_frames.new.writer) c.tell_frames.new.output) both tells)
    (λ _ begins. subst (AppendsPrefix old (g.W.Sink.contents c.tell_frames.new.writer)) both begins)
