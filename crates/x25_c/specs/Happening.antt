-- What happens to a station that C holds (profile): an event, and behind it a pull of what waits.
use Rattle.std.specs.Prelude.{Bool, false, ◌++◌}
use Rattle.x25_station.specs.declared.timer.Timer.{Timer}
use Rattle.x25_station.specs.Command.{may_lack}
use Rattle.x25_station.specs.Config.{Settings}
use Rattle.x25_station.specs.Pulling.{pulled}
use Rattle.x25_station.specs.Station.{Station}
use Rattle.x25_station.specs.Step.{Outcome, Did, Refused}
use Rattle.x25_station.specs.Timer.{timer_pulled}
use Rattle.x25_station.specs.laws.TimerLaw.{StationEvent, Comes, Asks, Fires, outcome, timer}

-- an event for which memory may be wanted: a call, an acceptance, a message, and what is given with a packet
abbrev pub may_lack_at : StationEvent → Bool
may_lack_at (Comes octets) = false
may_lack_at (Asks command) = may_lack command
may_lack_at Fires = false

-- its frames come behind those of the step
abbrev pub and_pull : Settings → Outcome → Outcome
and_pull c (Did step) =
    let next = pulled c step.near in
    Did (record { near = next.near; out = step.out ++ next.out; entries = step.entries })
and_pull c (Refused e) = Refused e

abbrev pub happens : Settings → StationEvent → Station → Outcome
happens c event s = and_pull c (outcome c s event)

-- what becomes of T1 at both
abbrev pub timer_at_both : Settings → Station → StationEvent → Outcome → Timer
timer_at_both c s event (Did step) = timer_pulled (timer s event (Did step)) step.near (pulled c step.near).near
timer_at_both c s event (Refused e) = timer s event (Refused e)
