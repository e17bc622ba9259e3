use Rattle.std.proofs.Common.{sym, ◌∙◌}
use Rattle.x25_possible_links.proofs.Alone.{step_is}
use Rattle.x25_possible_links.proofs.set.LinkSet.steps.Goals as goal

pub returns-in-Some-up_sends-clause-step : goal.returns-in-Some-up_sends-clause-step
returns-in-Some-up_sends-clause-step c =
    step_is c.args.self.now c.in-Some.k c.in-Some-up_sends.next c.args.frame (sym c.session.ensures.same ∙ c.in-Some.is)
    (sym c.up_sends.ensures ∙ c.in-Some-up_sends.is)
