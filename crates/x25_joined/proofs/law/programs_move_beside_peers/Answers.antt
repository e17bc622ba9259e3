use Rattle.x25_joined.proofs.rows.BesidePeerRowLemmas.{call_is_accepted}
use Rattle.x25_joined.proofs.law.programs_move_beside_peers.Goals as goal

pub returns : goal.returns
returns c = call_is_accepted
