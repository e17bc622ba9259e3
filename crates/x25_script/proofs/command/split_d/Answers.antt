use Rattle.x25_script.proofs.PartLemmas.{d_behind, d_none}
use Rattle.x25_script.proofs.command.split_d.Goals as goal

pub returns-in-Some : goal.returns-in-Some
returns-in-Some c = d_behind c.args.text.now c.in-Some.rest.now c.in-Some.ensures

pub returns-in-None : goal.returns-in-None
returns-in-None c = d_none c.args.text.now c.in-None.ensures
