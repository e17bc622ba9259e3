use Rattle.std.proofs.Common.{refl}
use Rattle.std.proofs.lemmas.Result.{MatchResult-weaker}
use Rattle.x25_sim.proofs.StandLemmas.{stands_unread, begins_unread}
use Rattle.x25_sim.proofs.stage.Stage.read_nothing.Goals as goal

pub returns-clause-turns : goal.returns-clause-turns
returns-clause-turns g c = λ cfg shown old w told refused h.
    MatchResult-weaker c.tell_nothing.result (c.tell_nothing.ensures.tells old told h.tells)
    (λ _ tells. stands_unread cfg shown old _ _ c.args.self.now _ w told refused h refl refl refl tells)
    (λ _ begins. begins_unread cfg shown old _ w told begins)
