use Rattle.x25_link.proofs.Names.{sends, reject_of}
use Rattle.x25_link.proofs.station.LinkStation.reject.Goals as goal

pub returns-clause-step : goal.returns-clause-step
returns-clause-step c = λ d before t fits.
    let frame = c.rejection-frame.ensures.frame d t.near fits.near in
    c.leave.ensures.step d before _ (sends (reject_of d c.args.octets.now c.args.why t.near) t) (rw frame at (c.send.ensures.step d before t fits))
