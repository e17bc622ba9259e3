use Rattle.x25_bits.specs.FrameCheck.{low_bits}
use Rattle.x25_bits.proofs.stuffing.put_flag.Goals as goal

pub returns-clause-ok : goal.returns-clause-ok
unfolding low_bits
returns-clause-ok c = c.in_ok-append.ensures.ok
