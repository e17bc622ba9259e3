use Rattle.x25_station.proofs.Names.{layer_settings}
use Rattle.x25_station.proofs.station.Station.channels.Goals as goal

pub returns : goal.returns
returns c = λ d s fits. c.channels.ensures (layer_settings d) s.layer fits.layer
