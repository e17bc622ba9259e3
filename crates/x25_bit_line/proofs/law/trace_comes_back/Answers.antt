use Rattle.x25_bit_line.proofs.BackLemmas.{comes_back}
use Rattle.x25_bit_line.proofs.law.trace_comes_back.Goals as goal

pub returns : goal.returns
returns c = comes_back c.flag_parts.ensures c.put_is_found.ensures
