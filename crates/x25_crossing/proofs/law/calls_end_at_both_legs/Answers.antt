use Rattle.x25_crossing.proofs.EndLemmas.{both_end}
use Rattle.x25_crossing.proofs.law.calls_end_at_both_legs.Goals as goal

pub returns-clause-both : goal.returns-clause-both
returns-clause-both c = both_end
