use Rattle.x25_station.proofs.DriveLemmas.{pulled, pulled_not}
use Rattle.x25_station.proofs.driving.pull.Goals as goal

pub returns-in-Some : goal.returns-in-Some
returns-in-Some c = pulled_not c.state.result c.args.layer.now c.args.link.now c.args.turn.now c.in-Some.error
    (record { up = c.state.ensures.up; full = c.state.ensures.waits }) c.in-Some.ensures.kinds c.in-Some.ensures.refused

pub returns : goal.returns
returns c = pulled c.state.result c.args.layer.now c.pull_all.new.layer c.args.link.now c.pull_all.new.link c.args.turn.now c.pull_all.new.turn
    (record { up = c.state.ensures.up; full = c.state.ensures.waits }) c.in_default.ensures.up c.in_default.ensures.ready c.pull_all.ensures.layer
    c.pull_all.ensures.link c.pull_all.ensures.turn
