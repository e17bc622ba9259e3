use Rattle.std.{proofs.Common.{ap}, specs.Prelude.{option_map}}
use Rattle.x25_script.{proofs.WordLemmas.{no_part, part_behind}, specs.Reading.{Accept, Call, Clear}}
use Rattle.x25_script.proofs.command.part.Goals as goal

pub returns-in-Some : goal.returns-in-Some
returns-in-Some c = rw (part_behind Call _ _ c.in-Some.ensures) c.call.ensures

pub returns-in-Some-behind : goal.returns-in-Some-behind
returns-in-Some-behind c = rw (part_behind Accept _ _ c.in-Some-behind.ensures) c.accept.ensures

pub returns-in-Some-behind-2 : goal.returns-in-Some-behind-2
returns-in-Some-behind-2 c = rw (part_behind Clear _ _ c.in-Some-behind-2.ensures) c.clear.ensures

pub returns : goal.returns
returns c = ap (option_map _) (no_part _ c.in_default.ensures c.in_default-behind.ensures c.in_default-behind-2.ensures)
