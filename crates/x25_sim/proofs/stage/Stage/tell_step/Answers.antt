use Rattle.std.proofs.Common.{◌++◌, drop, subst}
use Rattle.std.proofs.lemmas.Result.{err_from_is_err_and, MatchResult-weaker}
use Rattle.x25_io.specs.code.Written.{AppendsPrefix, Tells}
use Rattle.x25_io.proofs.ToldLemmas.{part_of_all}
use Rattle.x25_world.specs.code.ShownWorld.{line_from}
use Rattle.x25_sim.proofs.SayingLemmas.{entries_said}
use Rattle.x25_sim.proofs.StepLemmas.{told_by, told_alone, told_with_frames}
use Rattle.x25_sim.proofs.stage.Stage.tell_step.Goals as goal

pub returns-in_err-tell_entries-clause-tells : goal.returns-in_err-tell_entries-clause-tells
returns-in_err-tell_entries-clause-tells g c = λ old told w next is put h.
    let p = err_from_is_err_and c.from_residual.result c.from_residual.ensures.1 in
    let s = c.args.self.now in
    rw p.1 (part_of_all old _ told _ _ _ (told_by s.shown w next c.args.at s.step.entries.items is)
    (subst (λ text. AppendsPrefix old (g.W.Sink.contents c.tell_entries.new.writer) (told ++ text))
    (entries_said c.args.at s.step.entries.items)
    (c.in_err-tell_entries.ensures.tells old told h)))

pub returns-then-not-self-clause-tells : goal.returns-then-not-self-clause-tells
returns-then-not-self-clause-tells g c = λ old told w next is put h.
    let s = c.args.self.now in
    subst (Tells old (g.W.Sink.contents c.tell_entries.new.writer) c.tell_entries.new.output)
    (told_alone s.shown told w next c.args.at s.step.entries.items c.if-not-self.true is)
    (subst (λ text. Tells old (g.W.Sink.contents c.tell_entries.new.writer) c.tell_entries.new.output (told ++ text))
    (entries_said c.args.at s.step.entries.items)
    (c.in_ok-tell_entries.ensures.tells old told h))

pub returns-clause-tells : goal.returns-clause-tells
returns-clause-tells g c = λ old told w next is put h.
    let s = c.args.self.now in
    let both = told_with_frames s.shown told w next c.args.at s.step.entries.items (drop c.args.before (line_from s.world c.args.at))
    c.if-not-self.false is put in
    let entered = subst (λ text. Tells old (g.W.Sink.contents c.tell_entries.new.writer) c.tell_entries.new.output (told ++ text))
    (entries_said c.args.at s.step.entries.items)
    (c.in_ok-tell_entries.ensures.tells old told h) in
    MatchResult-weaker c.tell_put.result (c.tell_put.ensures.tells old _ entered)
    (λ _ tells. subst (Tells old (g.W.Sink.contents c.tell_put.new.writer) c.tell_put.new.self.output) both tells)
    (λ _ begins. subst (AppendsPrefix old (g.W.Sink.contents c.tell_put.new.writer)) both begins)
