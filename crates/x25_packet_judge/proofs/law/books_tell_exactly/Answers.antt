use Rattle.x25_packet_judge.proofs.TapeLemmas.{tell_exactly}
use Rattle.x25_packet_judge.proofs.law.books_tell_exactly.Goals as goal

pub returns : goal.returns
returns c = tell_exactly c.sets_tell_exactly.ensures.sends
