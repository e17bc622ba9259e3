use Rattle.x25_possible.proofs.RoomLemmas.{stays_known}
use Rattle.x25_possible.proofs.law.sets_stay_known.Goals as goal

pub returns : goal.returns
returns c = stays_known
