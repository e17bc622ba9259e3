use Rattle.x25_link.proofs.Names.{Local, LinkStep, leaves}
use Rattle.x25_link.proofs.station.LinkStation.relink.Goals as goal

pub returns-clause-step : goal.returns-clause-step
returns-clause-step c = λ d before t fits.
    let left : LinkStep = leaves Local t in
    let heard = c.leave-heard.ensures.step d before _ t fits in
    record { side = c.connect.ensures.step d before left.side heard.side; packet = heard.packet; notes = heard.notes; acknowledged = heard.acknowledged }
