use Rattle.x25_script.proofs.{CarriedLemmas.{spelled_octets}, GrammarLemmas.{line_found}}
use Rattle.x25_script.proofs.law.lines_are_in_octets.Goals as goal

pub returns : goal.returns
returns c = λ v text e. spelled_octets v text (line_found text v e)
