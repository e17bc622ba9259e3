use Rattle.x25_script.proofs.{AgainLemmas.{line_again}, GrammarLemmas.{line_found}}
use Rattle.x25_script.proofs.law.reading_is_the_grammar.Goals as goal

pub returns : goal.returns
returns c = λ v text. (line_found text v, line_again v text)
