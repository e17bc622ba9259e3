use Rattle.std.proofs.Common.{◌∙◌, sym}
use Rattle.x25_script.proofs.PartLemmas.{labelled_none, labelled_some}
use Rattle.x25_script.proofs.given.labelled.Goals as goal

pub returns-in-Some : goal.returns-in-Some
returns-in-Some c = c.small_number.ensures ∙ sym (labelled_some c.args.label.now c.args.text.now c.in-Some.number.now c.in-Some.ensures)

pub returns-in-None : goal.returns-in-None
returns-in-None c = sym (labelled_none c.args.label.now c.args.text.now c.in-None.ensures)
