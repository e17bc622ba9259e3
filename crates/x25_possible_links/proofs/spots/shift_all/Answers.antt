use Rattle.std.proofs.Common.{arith}
use Rattle.x25_possible_links.specs.code.Steps.{shifted}
use Rattle.x25_possible_links.proofs.LoopLemmas.{mapped_more, mapped_all}
use Rattle.x25_possible_links.proofs.spots.shift_all.Goals as goal

pub loop-spot-preserved : goal.loop-spot-preserved
loop-spot-preserved c =
    mapped_more (shifted c.args.count) c.loop-spot.spot-index c.loop-spot.spots c.args.spots.now _ c.shifted.result (omega arith)
    c.shifted.ensures c.loop-spot.invariant

pub returns : goal.returns
returns c =
    mapped_all (shifted c.args.count) c.loop-spot.spot-index c.loop-spot.spots c.args.spots.now (omega arith) c.loop-spot.invariant
