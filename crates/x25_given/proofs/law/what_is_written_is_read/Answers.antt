use Rattle.x25_given.proofs.WrittenLemmas.{written_is_read, written_in_form}
use Rattle.x25_given.proofs.law.what_is_written_is_read.Goals as goal

pub returns : goal.returns
returns c = record { read = written_is_read c.taking_keeps_octets.ensures.spelled; form = written_in_form }
