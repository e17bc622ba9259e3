use Rattle.x25_station.proofs.{DriveLemmas.{takes_it}, Names.{◌≡◌, [], given_with, Dials}, WithLemmas.{drove_asked, drove_asked_not, puts_dialled}}
use Rattle.x25_station.proofs.driving.call.Goals as goal

pub drive_with-requires-clause-free : goal.drive_with-requires-clause-free
drive_with-requires-clause-free c = takes_it c.state.result c.args.link.now (c.call.new.self.sheet ≡ []) c.state.ensures.full c.in_ok-channel.ensures.does.free

pub returns-in_err-channel-clause-does : goal.returns-in_err-channel-clause-does
returns-in_err-channel-clause-does c = drove_asked_not _ c.from_residual.result c.in_err-channel.field-0.0 (given_with c.args.given) c.state.result
    c.args.layer.now c.call.new.self c.args.link.now c.args.turn.now (Dials c.args.called.now c.args.calling.now c.args.user.now c.args.proposal.now)
    (record { up = c.state.ensures.up; full = c.state.ensures.waits }) c.from_residual.ensures.1 c.in_err-channel.ensures.does

pub returns-clause-does : goal.returns-clause-does
returns-clause-does c = drove_asked c.in_ok-channel.channel (given_with c.args.given) c.state.result c.args.layer.now c.call.new.self c.drive_with.new.layer
    c.args.link.now c.drive_with.new.link c.args.turn.now c.drive_with.new.turn (Dials c.args.called.now c.args.calling.now c.args.user.now c.args.proposal.now)
    (record { up = c.state.ensures.up; full = c.state.ensures.waits })
    (puts_dialled (given_with c.args.given) c.state.result.is_up c.state.result.is_full c.args.called.now c.args.calling.now c.args.user.now
    c.args.proposal.now)
    c.in_ok-channel.ensures.does c.drive_with.ensures.layer c.drive_with.ensures.link c.drive_with.ensures.turn
