use Rattle.x25_station.proofs.Names.{layer_settings}
use Rattle.x25_station.proofs.station.Station.busy_after.Goals as goal

pub returns-clause-between : goal.returns-clause-between
returns-clause-between c = λ d s fits. c.busy_after.ensures.between (layer_settings d) s.layer fits.layer

pub returns-clause-none : goal.returns-clause-none
returns-clause-none c = λ d s fits. c.busy_after.ensures.none (layer_settings d) s.layer fits.layer

pub returns-clause-acknowledged : goal.returns-clause-acknowledged
returns-clause-acknowledged c = λ d s fits. c.busy_after.ensures.acknowledged (layer_settings d) s.layer fits.layer

pub returns-clause-all_acknowledged : goal.returns-clause-all_acknowledged
returns-clause-all_acknowledged c = λ d s fits. c.busy_after.ensures.all_acknowledged (layer_settings d) s.layer fits.layer
