use Rattle.std.proofs.Common.{arith}
use Rattle.x25_possible_links.specs.code.Steps.{walks}
use Rattle.x25_possible_links.proofs.LoopLemmas.{next_made, not_made, all_made}
use Rattle.x25_possible_links.proofs.spots.walk_all.Goals as goal

pub loop-spot-preserved : goal.loop-spot-preserved
loop-spot-preserved c =
    next_made (walks c.args.mode c.args.frame c.args.way.now) c.args.spots.now c.loop-spot.spot-index _
    c.args.out.now.items c.loop-spot.out.items c.walks.new.out.items c.walks.result c.loop-spot-test.true c.loop-spot.invariant
    c.walks.ensures c.if-not-walks.false

pub returns-then-not-walks : goal.returns-then-not-walks
returns-then-not-walks c =
    not_made (walks c.args.mode c.args.frame c.args.way.now) c.args.spots.now c.loop-spot.spot-index _
    c.args.out.now.items c.loop-spot.out.items c.walks.new.out.items c.walks.result c.loop-spot-test.true c.loop-spot.invariant
    c.walks.ensures c.if-not-walks.true

pub returns : goal.returns
returns c =
    all_made (walks c.args.mode c.args.frame c.args.way.now) c.args.spots.now c.loop-spot.spot-index
    c.args.out.now.items c.loop-spot.out.items (omega (arith, c.loop-spot-test.false)) c.loop-spot.invariant
