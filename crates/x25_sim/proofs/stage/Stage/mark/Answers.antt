use Rattle.std.proofs.Common.{refl}
use Rattle.std.proofs.lemmas.Result.{MatchResult-weaker}
use Rattle.x25_world.specs.World.{event_of}
use Rattle.x25_sim.proofs.StandLemmas.{stands_marked, stands_unmarked, begins_marked}
use Rattle.x25_sim.proofs.stage.Stage.mark.Goals as goal

pub returns-then-not-self-clause-turns : goal.returns-then-not-self-clause-turns
returns-then-not-self-clause-turns g c = λ cfg shown old w told refused h.
    stands_unmarked cfg shown old _ _ c.args.self.now c.args.self.now w (event_of c.args.event) told refused h c.if-not-self.true refl refl refl h.tells

pub returns-clause-turns : goal.returns-clause-turns
returns-clause-turns g c = λ cfg shown old w told refused h.
    let s = c.args.self.now in
    let e = event_of c.args.event in
    MatchResult-weaker c.tell_mark.result (c.tell_mark.ensures.tells old told h.tells)
    (λ _ tells. stands_marked cfg shown old _ _ s _ w e told refused h c.if-not-self.false refl refl refl tells)
    (λ _ begins. begins_marked cfg shown old _ (g.W.Sink.contents c.tell_mark.new.writer) s s w e told refused h c.if-not-self.false begins)
