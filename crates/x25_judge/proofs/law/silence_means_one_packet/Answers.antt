use Rattle.x25_judge.proofs.verdicts.Numbering.{silence_means_numbers}
use Rattle.x25_judge.proofs.law.silence_means_one_packet.Goals as goal

pub returns : goal.returns
returns c = silence_means_numbers c.laws_below.ensures.reads
