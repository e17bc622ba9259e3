use Rattle.std.proofs.Common.{subst}
use Rattle.std.proofs.lemmas.Result.{MatchResult-weaker}
use Rattle.x25_io.specs.code.Written.{AppendsPrefix, Tells}
use Rattle.x25_sim.proofs.StepLemmas.{first_frames, first_alone}
use Rattle.x25_sim.proofs.stage.Stage.begin.Goals as goal

pub returns-then-not-self-clause-tells : goal.returns-then-not-self-clause-tells
returns-then-not-self-clause-tells g c = λ cfg down old told f h.
    subst (Tells old (g.W.Sink.contents c.args.writer.now) c.args.self.now.output) (first_alone cfg c.args.self.now.shown down told c.if-not-self.true) h

pub returns-clause-tells : goal.returns-clause-tells
returns-clause-tells g c = λ cfg down old told f h.
    let s = c.args.self.now in
    let all = first_frames cfg s.shown down told s.world c.if-not-self.false f in
    MatchResult-weaker c.tell_put.result (c.tell_put.ensures.tells old told h)
    (λ _ tells. subst (Tells old (g.W.Sink.contents c.tell_put.new.writer) c.tell_put.new.self.output) all tells)
    (λ _ begins. subst (AppendsPrefix old (g.W.Sink.contents c.tell_put.new.writer)) all begins)
