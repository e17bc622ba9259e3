use Rattle.std.proofs.Common.{drop, sym, ◌∙◌}
use Rattle.x25_possible.proofs.LoopLemmas.{settles_large}
use Rattle.x25_possible.proofs.spots.settle.Goals as goal

pub returns-then-is_large : goal.returns-then-is_large
returns-then-is_large c =
    settles_large c.args.role c.loop-role.at (drop c.loop-role.at c.args.way.now) c.loop-role.phase c.loop-role.out.items
    (sym c.is_large.ensures.same ∙ c.if-is_large.true) ∙ c.loop-role.invariant
