use Rattle.x25_possible_links.proofs.Exactly.{tells_exactly}
use Rattle.x25_possible_links.proofs.law.links_tell_exactly.Goals as goal

pub returns : goal.returns
returns c = λ begun. tells_exactly begun
