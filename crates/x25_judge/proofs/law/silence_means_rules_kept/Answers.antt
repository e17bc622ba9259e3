use Rattle.x25_judge.proofs.verdicts.Numbering.{silence_means_rules}
use Rattle.x25_judge.proofs.law.silence_means_rules_kept.Goals as goal

pub returns : goal.returns
returns c = silence_means_rules c.laws_below.ensures.reads
