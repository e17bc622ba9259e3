use Rattle.x25_station.proofs.{DriveLemmas.{drove, drove_not, takes_it}, Names.{◌≡◌, [], Restarts}}
use Rattle.x25_station.proofs.driving.restart.Goals as goal

pub drive-requires-clause-free : goal.drive-requires-clause-free
drive-requires-clause-free c = takes_it c.state.result c.args.link.now (c.restart.new.self.sheet ≡ []) c.state.ensures.full c.in_ok-restart.ensures.free

pub returns-in_err-restart : goal.returns-in_err-restart
returns-in_err-restart c = drove_not _ c.from_residual.result c.in_err-restart.field-0.0 c.state.result c.args.layer.now c.restart.new.self c.args.link.now
    c.args.turn.now (Restarts c.args.cause c.args.diagnostic) (record { up = c.state.ensures.up; full = c.state.ensures.waits }) c.from_residual.ensures.1
    c.in_err-restart.ensures

pub returns : goal.returns
returns c = drove c.in_ok-restart.field-0 c.state.result c.args.layer.now c.restart.new.self c.drive.new.layer c.args.link.now c.drive.new.link
    c.args.turn.now c.drive.new.turn (Restarts c.args.cause c.args.diagnostic) (record { up = c.state.ensures.up; full = c.state.ensures.waits }) c.in_ok-restart.ensures c.drive.ensures.layer
    c.drive.ensures.link c.drive.ensures.turn
