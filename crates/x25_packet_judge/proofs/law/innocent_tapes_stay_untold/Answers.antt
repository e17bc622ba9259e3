use Rattle.x25_packet_judge.proofs.TapeLemmas.{innocent_tapes}
use Rattle.x25_packet_judge.proofs.law.innocent_tapes_stay_untold.Goals as goal

pub returns : goal.returns
returns c = innocent_tapes c.sets_tell_exactly.ensures.sends c.innocents_stay_untold.ensures c.polite_stay_untold.ensures
