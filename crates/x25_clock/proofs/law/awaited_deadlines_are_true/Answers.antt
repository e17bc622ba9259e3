use Rattle.x25_clock.proofs.ClockLemmas.{deadlines_are_true, true_stays}
use Rattle.x25_clock.proofs.law.awaited_deadlines_are_true.Goals as goal

pub returns : goal.returns
returns c = record { so = deadlines_are_true; stays = true_stays }
