use Rattle.std.proofs.Common.{sym, ◌∙◌, drop}
use Rattle.x25_possible_links.proofs.LoopLemmas.{best_large}
use Rattle.x25_possible_links.proofs.spots.best.Goals as goal

pub returns-then-is_large : goal.returns-then-is_large
returns-then-is_large c =
    best_large c.loop-stand.at (drop c.loop-stand.at c.args.way.now) c.loop-stand.stand
    (sym c.is_large.ensures.same ∙ c.if-is_large.true) ∙ c.loop-stand.invariant
