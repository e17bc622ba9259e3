use Rattle.std.proofs.Common.{IfSome, sym, subst, ◌∙◌}
use Rattle.x25_possible_links.specs.code.Steps.{IsTaken}
use Rattle.x25_possible_links.proofs.Alone.{taken_is}
use Rattle.x25_possible_links.proofs.set.LinkSet.takes.Goals as goal

pub returns-in-Some-clause-taken : goal.returns-in-Some-clause-taken
returns-in-Some-clause-taken c =
    subst (λ o. IfSome o (λ next. IsTaken c.args.frame next c.args.self.now)) (sym c.up_hears.ensures)
    (taken_is c.args.self.now c.in-Some.k c.args.frame (sym c.session.ensures.same ∙ c.in-Some.is))
