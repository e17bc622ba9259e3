use Rattle.x25_sim.proofs.RunLemmas.{script_runs}
use Rattle.x25_sim.proofs.law.scripts_are_runs.Goals as goal

pub returns : goal.returns
returns c = λ cfg down shown script. script_runs c.lines_are_in_octets.ensures cfg down shown script
