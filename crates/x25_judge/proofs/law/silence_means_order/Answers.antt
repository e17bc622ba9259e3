use Rattle.x25_judge.proofs.verdicts.Silences.{silence_means_order}
use Rattle.x25_judge.proofs.law.silence_means_order.Goals as goal

pub returns : goal.returns
returns c = silence_means_order c.laws_below.ensures.reads c.laws_below.ensures.order
