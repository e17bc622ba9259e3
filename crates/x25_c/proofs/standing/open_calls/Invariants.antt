use Rattle.std.proofs.Common.{◌≡◌, ◌≤◌}
use Rattle.x25_station.specs.Config.{Settings}
use Rattle.x25_station.specs.Station.{Station as State}
use Rattle.x25_station.specs.code.FitsStation.{FitsStation}
use Rattle.x25_c.specs.Standing.{count_up_to, has_call}
use Rattle.x25_c.proofs.standing.open_calls.Given as goal

abbrev pub invariant-loop-channel : goal.invariant-loop-channel
invariant-loop-channel l = (l.count ≤ l.channel)
    × ((c : Settings) (s : State) → FitsStation c l.station s → l.count ≡ count_up_to (has_call c s) l.channel)
