use Rattle.std.proofs.Common.{sym, subst}
use Rattle.x25_script.specs.Reading.{GivesCommand}
use Rattle.x25_script.proofs.reading.read_with.Goals as goal

pub returns-in-Some : goal.returns-in-Some
returns-in-Some g c =
    c.hand_command.ensures _ (subst (GivesCommand c.part.result) (sym c.in-Some.ensures) c.part.ensures)
