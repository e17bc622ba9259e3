use Rattle.x25_station.proofs.UnheardLemmas.{unheard_asks_on}
use Rattle.x25_station.proofs.law.silence_is_asked.Goals as goal

pub returns : goal.returns
returns c = unheard_asks_on c.sets_up_by_rows.ensures.waits
