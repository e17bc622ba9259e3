use Rattle.std.proofs.{Common.{subst}, lemmas.Iterator.Adapters.{option_map_id}}
use Rattle.x25_script.specs.Reading.{GivesCommand}
use Rattle.x25_script.proofs.reading.read_accept.Goals as goal

pub returns : goal.returns
returns g c = c.hand_command.ensures _ (subst (GivesCommand c.accept.result) (option_map_id _) c.accept.ensures)
