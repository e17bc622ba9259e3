use Rattle.x25_bits.proofs.LawLemmas.{flag_cuts}
use Rattle.x25_bits.proofs.laws.flag_parts.Goals as goal

pub returns : goal.returns
returns c = flag_cuts
