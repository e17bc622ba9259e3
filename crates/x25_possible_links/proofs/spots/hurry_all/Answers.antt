use Rattle.std.proofs.Common.{arith}
use Rattle.x25_possible_links.specs.code.Steps.{hurried}
use Rattle.x25_possible_links.proofs.LoopLemmas.{mapped_more, mapped_all}
use Rattle.x25_possible_links.proofs.spots.hurry_all.Goals as goal

pub loop-spot-preserved : goal.loop-spot-preserved
loop-spot-preserved c =
    mapped_more (hurried c.args.count c.args.front.now) c.loop-spot.spot-index c.loop-spot.spots c.args.spots.now _
    c.hurried.result (omega arith) c.hurried.ensures c.loop-spot.invariant

pub returns : goal.returns
returns c =
    mapped_all (hurried c.args.count c.args.front.now) c.loop-spot.spot-index c.loop-spot.spots c.args.spots.now (omega arith)
    c.loop-spot.invariant
