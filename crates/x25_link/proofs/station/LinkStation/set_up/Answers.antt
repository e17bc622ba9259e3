use Rattle.x25_link.proofs.FitsLemmas.{no_tries}
use Rattle.x25_link.proofs.station.LinkStation.set_up.Goals as goal

pub returns : goal.returns
returns c = record { step = λ d before made t fits. no_tries d _ before made t (c.clear.ensures.step d before made t fits) }
