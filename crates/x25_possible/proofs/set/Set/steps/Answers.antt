use Rattle.std.proofs.Common.{sym, ◌∙◌}
use Rattle.x25_possible.proofs.AloneLemmas.{flow_steps_in}
use Rattle.x25_possible.proofs.set.Set.steps.Goals as goal

pub returns-in-Some : goal.returns-in-Some
returns-in-Some c =
    flow_steps_in c.args.self.now c.in-Some.talk c.args.packet c.flow_sends.result (sym c.flow.ensures.same ∙ c.in-Some.is) c.flow_sends.ensures
