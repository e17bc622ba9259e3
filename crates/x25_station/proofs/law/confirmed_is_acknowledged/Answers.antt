use Rattle.x25_station.proofs.PassLemmas.{confirmed_acknowledged, told_confirmed}
use Rattle.x25_station.proofs.law.confirmed_is_acknowledged.Goals as goal

pub returns : goal.returns
returns c = record { acknowledged = confirmed_acknowledged; told = told_confirmed }
