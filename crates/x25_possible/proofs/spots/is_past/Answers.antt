use Rattle.std.proofs.Common.{arith}
use Rattle.x25_possible.specs.code.Steps.{are_at_end}
use Rattle.x25_possible.proofs.LoopLemmas.{next_past, not_past, none_of_left}
use Rattle.x25_possible.proofs.spots.is_past.Goals as goal

pub loop-spot-preserved : goal.loop-spot-preserved
loop-spot-preserved c =
    next_past c.args.end c.args.spots.now c.loop-spot.spot-index _ c.loop-spot-test.true c.if-spot-end.false c.loop-spot.invariant

pub returns-then-spot-end : goal.returns-then-spot-end
returns-then-spot-end c =
    not_past c.args.end c.args.spots.now c.loop-spot.spot-index _ c.loop-spot-test.true c.if-spot-end.true c.loop-spot.invariant

pub returns : goal.returns
returns c =
    none_of_left (are_at_end c.args.end) c.args.spots.now c.loop-spot.spot-index (omega (arith, c.loop-spot-test.false))
    c.loop-spot.invariant
