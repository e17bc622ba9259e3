use Rattle.x25_layer.proofs.{ApartLemmas.{own_moves_decide, events_run_on, stays_down}, FirstLemmas.{begins_alone}}
use Rattle.x25_layer.proofs.law.each_end_is_by_itself.Goals as goal

pub returns : goal.returns
returns c = record { own = own_moves_decide; alone = begins_alone; down = stays_down; behind = events_run_on }
