use Rattle.std.proofs.Common.{sym, ◌∙◌, drop}
use Rattle.x25_possible_links.proofs.LoopLemmas.{gone_lost}
use Rattle.x25_possible_links.proofs.spots.gone.Goals as goal

pub returns-then-is_lost : goal.returns-then-is_lost
returns-then-is_lost c =
    gone_lost (drop c.loop-stand.at c.args.way.now) c.loop-stand.stand (sym c.is_lost.ensures.same ∙ c.if-is_lost.true)
    ∙ c.loop-stand.invariant
