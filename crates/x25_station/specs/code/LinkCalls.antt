-- Calls that the link alone answers, by their kind.
use Rattle.std.specs.Prelude.{List, [], ◌∷◌, Option}
use Rattle.x25_link.specs.declared.error.LinkError.{LinkError}
use Rattle.x25_link.specs.Station.{LinkSettings, LinkStation}
use Rattle.x25_link.specs.Hearing.{LinkStep}
use Rattle.x25_link.specs.Link.{timer_refusal, timer_step, connect_refusal, connect_step, disconnect_refusal}
use Rattle.x25_link.specs.Link.{disconnect_step, probe_refusal, relink_refusal, relink_step}
use Rattle.x25_station.specs.declared.linking.LinkCall.{LinkCall}
use Rattle.x25_station.specs.declared.linking.LinkCall.TheVariants.{Connect, Disconnect, Fire, Probe, Relink}
use Rattle.x25_station.specs.Config.{Settings, link_settings}
use Rattle.x25_link.specs.declared.phase.Ending.{Ending}
use Rattle.x25_station.specs.Entry.{StationEntry, connect_asked, disconnect_asked, relink_asked, end_between}
use Rattle.x25_station.specs.Entry.{entries_ended}
use Rattle.x25_station.specs.Station.{Station}
use Rattle.x25_station.specs.Step.{Outcome, follows, led_by, unless}

abbrev pub link_refusal : LinkCall → LinkStation → Option LinkError
link_refusal Connect s = connect_refusal s.phase
link_refusal Disconnect s = disconnect_refusal s.phase
link_refusal Fire s = timer_refusal s
link_refusal Probe s = probe_refusal s.phase
link_refusal Relink s = relink_refusal s.phase

abbrev pub step_of_call : LinkCall → LinkSettings → LinkStation → LinkStep
step_of_call Connect c s = connect_step c s
step_of_call Disconnect c s = disconnect_step c s
step_of_call Relink c s = relink_step c s
step_of_call call c s = timer_step c s

-- the entry of a command, and at a firing of T1 the end of what a DISC awaits
abbrev pub entries_called : LinkCall → Option Ending → List StationEntry
entries_called Connect ending = connect_asked ∷ []
entries_called Disconnect ending = disconnect_asked ∷ []
entries_called Relink ending = relink_asked ∷ []
entries_called Fire ending = entries_ended ending
entries_called Probe ending = []

abbrev pub calls_link : LinkCall → Settings → Station → Outcome
calls_link call c s =
    let k : LinkStep = step_of_call call (link_settings c) s.link in
    unless (link_refusal call s.link) (led_by (entries_called call (end_between s.link k.side.near)) (follows c s k))
