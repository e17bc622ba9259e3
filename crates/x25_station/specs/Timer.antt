-- What becomes of timer T1 at a step (sections 2.4.4.1, 2.4.5.5 and 2.4.5.9): it is off behind it, begins anew, or goes
-- on.
use Rattle.std.specs.Prelude.{nat_lt, Bool, true, false, not, ◌||◌, List, [], ◌∷◌}
use Rattle.x25_link.specs.Station.{LinkStation}
use Rattle.x25_link.specs.Link.{timer_runs}
use Rattle.x25_station.specs.declared.timer.Timer.{Timer}
use Rattle.x25_station.specs.declared.timer.Timer.TheVariants.{Off, Begins, GoesOn}
use Rattle.x25_station.specs.Entry.{StationEntry, link_up, link_down}
use Rattle.x25_station.specs.Station.{Station}
use Rattle.x25_station.specs.Step.{Step, Outcome, Did, Refused}

abbrev pub runs : Station → Bool
runs s = timer_runs s.link.phase s.link

-- the link came up, or went down
abbrev pub is_of_link : StationEntry → Bool
is_of_link link_up = true
is_of_link (link_down reason) = true
is_of_link entry = false

abbrev pub tells_link : List StationEntry → Bool
tells_link [] = false
tells_link (entry ∷ entries) = is_of_link entry || tells_link entries

-- more of the frames sent are acknowledged
abbrev pub is_acknowledged : LinkStation → LinkStation → Bool
is_acknowledged before behind = nat_lt before.outgoing.acked behind.outgoing.acked

-- T1 didn't run before, this was its firing, the link came up or went down, or a frame was acknowledged
abbrev pub is_anew : Station → Bool → Step → Bool
is_anew s has_fired step =
    not (runs s) || (has_fired || (tells_link step.entries || is_acknowledged s.link step.near.link))

abbrev pub timer_of : Bool → Bool → Timer
timer_of false anew = Off
timer_of true false = GoesOn
timer_of true true = Begins

-- behind no step T1 is as it was
abbrev pub standing : Station → Timer
standing s = timer_of (runs s) false

-- a refusal changes nothing
abbrev pub timer_at : Station → Bool → Outcome → Timer
timer_at s has_fired (Did step) = timer_of (runs step.near) (is_anew s has_fired step)
timer_at s has_fired (Refused e) = standing s

-- ---- a step and a pull behind it: where T1 ran before the pull it is as the step left it

abbrev pub pulled_timer : Timer → Bool → Bool → Timer
pulled_timer first ran false = Off
pulled_timer first true true = first
pulled_timer first false true = Begins

abbrev pub timer_pulled : Timer → Station → Station → Timer
timer_pulled first s next = pulled_timer first (runs s) (runs next)
