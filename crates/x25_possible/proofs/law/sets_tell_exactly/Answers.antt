use Rattle.x25_possible.proofs.SetLemmas.{sends_exactly, shows_exactly}
use Rattle.x25_possible.proofs.law.sets_tell_exactly.Goals as goal

pub returns-clause-sends : goal.returns-clause-sends
returns-clause-sends c = sends_exactly

pub returns-clause-shows : goal.returns-clause-shows
returns-clause-shows c = shows_exactly
