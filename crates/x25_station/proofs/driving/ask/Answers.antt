use Rattle.x25_station.proofs.{DriveLemmas.{takes_it}, Names.{◌≡◌, [], plain_request, given_with, Asks}, WithLemmas.{drove_asked, drove_asked_not, puts_asked}}
use Rattle.x25_station.proofs.driving.ask.Goals as goal

pub drive_with-requires-clause-free : goal.drive_with-requires-clause-free
drive_with-requires-clause-free c = takes_it c.state.result c.args.link.now (c.ask.new.self.sheet ≡ []) c.state.ensures.full c.in_ok-ask.ensures.free

pub returns-in_err-ask : goal.returns-in_err-ask
returns-in_err-ask c = drove_asked_not _ c.from_residual.result c.in_err-ask.field-0.0 (given_with c.args.given) c.state.result c.args.layer.now c.ask.new.self
    c.args.link.now c.args.turn.now (Asks c.args.channel (plain_request c.args.request)) (record { up = c.state.ensures.up; full = c.state.ensures.waits })
    c.from_residual.ensures.1 c.in_err-ask.ensures

pub returns : goal.returns
returns c = drove_asked c.in_ok-ask.field-0 (given_with c.args.given) c.state.result c.args.layer.now c.ask.new.self c.drive_with.new.layer c.args.link.now
    c.drive_with.new.link c.args.turn.now c.drive_with.new.turn (Asks c.args.channel (plain_request c.args.request)) (record { up = c.state.ensures.up; full = c.state.ensures.waits })
    (puts_asked (given_with c.args.given) c.state.result.is_up c.state.result.is_full c.args.channel (plain_request c.args.request) c.requires.suits)
    c.in_ok-ask.ensures c.drive_with.ensures.layer c.drive_with.ensures.link c.drive_with.ensures.turn
