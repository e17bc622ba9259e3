use Rattle.x25_station.proofs.PulledLemmas.{steps_pull}
use Rattle.x25_station.proofs.law.steps_leave_none.Goals as goal

pub returns : goal.returns
returns c = steps_pull c.messages_wait_for_users.ensures.left
