use Rattle.x25_station.proofs.Names.{ap, Manner}
use Rattle.x25_station.proofs.station.Station.is_wide.Goals as goal

pub returns : goal.returns
returns c = λ d s fits. ap (λ (m : Manner). m.wide) fits.same
