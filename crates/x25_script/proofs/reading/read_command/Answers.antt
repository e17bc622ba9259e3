use Rattle.x25_script.{proofs.WordLemmas.{command_behind}, specs.Reading.{Accept, Send, with_fields}}
use Rattle.x25_script.proofs.reading.read_command.Goals as goal

pub returns-in-Some : goal.returns-in-Some
unfolding with_fields
returns-in-Some g c = rw (command_behind Send _ _ c.in-Some.ensures) c.read_send.ensures

pub returns-in-Some-behind : goal.returns-in-Some-behind
unfolding with_fields
returns-in-Some-behind g c = rw (command_behind Accept _ _ c.in-Some-behind.ensures) c.read_accept.ensures
