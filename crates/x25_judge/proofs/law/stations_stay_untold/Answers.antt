use Rattle.x25_judge.proofs.verdicts.Stations.{no_station_is_accused}
use Rattle.x25_judge.proofs.law.stations_stay_untold.Goals as goal

pub returns : goal.returns
returns c =
    let below = c.laws_below.ensures in
    no_station_is_accused below.spelled below.station below.hands c.sessions_stay_untold.ensures
