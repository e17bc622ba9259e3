use Rattle.std.proofs.Common.{arith}
use Rattle.x25_possible.specs.code.Steps.{goes}
use Rattle.x25_possible.proofs.LoopLemmas.{next_made, not_made, all_made}
use Rattle.x25_possible.proofs.spots.go_all.Goals as goal

pub loop-spot-preserved : goal.loop-spot-preserved
loop-spot-preserved c =
    next_made (goes c.args.breaks c.args.role c.args.way.now c.args.packet.now) c.args.spots.now c.loop-spot.spot-index _
    c.args.out.now.items c.loop-spot.out.items c.goes.new.out.items c.goes.result c.loop-spot-test.true c.loop-spot.invariant
    c.goes.ensures c.if-not-goes.false

pub returns-then-not-goes : goal.returns-then-not-goes
returns-then-not-goes c =
    not_made (goes c.args.breaks c.args.role c.args.way.now c.args.packet.now) c.args.spots.now c.loop-spot.spot-index _
    c.args.out.now.items c.loop-spot.out.items c.goes.new.out.items c.goes.result c.loop-spot-test.true c.loop-spot.invariant
    c.goes.ensures c.if-not-goes.true

pub returns : goal.returns
returns c =
    all_made (goes c.args.breaks c.args.role c.args.way.now c.args.packet.now) c.args.spots.now c.loop-spot.spot-index
    c.args.out.now.items c.loop-spot.out.items (omega (arith, c.loop-spot-test.false)) c.loop-spot.invariant
