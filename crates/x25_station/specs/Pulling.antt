-- What is pulled behind a step (profile): the data packets that wait in the circuits, as far as the link takes them.
use Rattle.std.specs.Prelude.{[]}
use Rattle.x25_layer.specs.Calls.{PullsAll}
use Rattle.x25_station.specs.Config.{Settings}
use Rattle.x25_station.specs.Station.{Station}
use Rattle.x25_station.specs.Step.{Step, Outcome, Did, Refused, requests}

-- where it is refused, as while the link isn't up or a restart is under way, nothing is done
abbrev pub pulled_of : Station → Outcome → Step
pulled_of s (Did step) = step
pulled_of s (Refused e) = record { near = s; out = []; entries = [] }

abbrev pub pulled : Settings → Station → Step
pulled c s = pulled_of s (requests c s PullsAll)
