use Rattle.x25_bits.proofs.LawLemmas.{found_begins, cuts_from_start, cuts_all}
use Rattle.x25_bits.proofs.laws.cuts_agree.Goals as goal

pub returns-clause-begins : goal.returns-clause-begins
returns-clause-begins c = found_begins

pub returns-clause-cuts : goal.returns-clause-cuts
returns-clause-cuts c = cuts_from_start

pub returns-clause-later : goal.returns-clause-later
returns-clause-later c = cuts_all
