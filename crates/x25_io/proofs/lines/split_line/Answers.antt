use Rattle.x25_io.proofs.LineLemmas.{cut_line, no_line}
use Rattle.x25_io.proofs.lines.split_line.Goals as goal

pub returns-in-Some-clause-parts : goal.returns-in-Some-clause-parts
returns-in-Some-clause-parts c = cut_line c.in-Some.at c.args.octets.now c.in-Some.ensures

pub returns-in-None-clause-parts : goal.returns-in-None-clause-parts
returns-in-None-clause-parts c = no_line c.args.octets.now c.in-None.ensures
