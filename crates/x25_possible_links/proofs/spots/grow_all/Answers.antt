use Rattle.std.proofs.Common.{arith, sym, ◌∙◌}
use Rattle.x25_possible_links.specs.code.Steps.{grown}
use Rattle.x25_possible_links.proofs.LoopLemmas.{each_more, each_none, each_all}
use Rattle.x25_possible_links.proofs.spots.grow_all.Goals as goal

pub returns-in-None : goal.returns-in-None
returns-in-None c =
    each_none (grown c.args.last c.args.way.now) c.loop-spot.spot-index c.loop-spot.spots c.args.spots.now _ (omega arith)
    (sym c.in-None.is ∙ c.grown.ensures) c.loop-spot.invariant

pub loop-spot-preserved : goal.loop-spot-preserved
loop-spot-preserved c =
    each_more (grown c.args.last c.args.way.now) c.loop-spot.spot-index c.loop-spot.spots c.args.spots.now _ c.in-Some.next
    (omega arith) (sym c.in-Some.is ∙ c.grown.ensures) c.loop-spot.invariant

pub returns : goal.returns
returns c =
    each_all (grown c.args.last c.args.way.now) c.loop-spot.spot-index c.loop-spot.spots c.args.spots.now (omega arith)
    c.loop-spot.invariant
