use Rattle.x25_script.proofs.NumberLemmas.{Leads}
use Rattle.x25_script.proofs.fields.value_of.Given as goal

abbrev pub invariant-loop-character : goal.invariant-loop-character
invariant-loop-character l = Leads l.character-index l.value l.text
