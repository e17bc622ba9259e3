use Rattle.x25_script.{proofs.WordLemmas.{command_behind}, specs.Reading.{With, with_fields}}
use Rattle.x25_script.proofs.reading.read_other.Goals as goal

pub returns-in-Some : goal.returns-in-Some
unfolding with_fields
returns-in-Some g c = λ no_send no_accept. rw (command_behind With _ _ c.in-Some.ensures) c.read_with.ensures

pub returns : goal.returns
returns g c = λ no_send no_accept. c.hand_command.ensures _ (c.other_command.ensures no_send no_accept c.in_default.ensures)
