use Rattle.x25_frame.proofs.ReadingLawLemmas.{reads_spelled}
use Rattle.x25_frame.proofs.law.reads_what_is_spelled.Goals as goal

pub returns : goal.returns
returns c = record { reads = reads_spelled }
