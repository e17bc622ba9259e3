use Rattle.x25_frame.proofs.ReadingLawLemmas.{reads_spelled, read_is_spelled, error_is_the_first}
use Rattle.x25_frame.proofs.law.reading_is_the_grammar.Goals as goal

pub returns-clause-spelled : goal.returns-clause-spelled
returns-clause-spelled c = λ from n1 v octets small. (read_is_spelled c.sealed_is_tested.ensures from n1 v octets small, reads_spelled from n1 v octets)

pub returns-clause-error : goal.returns-clause-error
returns-clause-error c = error_is_the_first c.sealed_is_tested.ensures
