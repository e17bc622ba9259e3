use Rattle.x25_joined.proofs.rows.TimedRowLemmas.{firing_has_to_wait, link_is_set_up, sabm_goes_again}
use Rattle.x25_joined.proofs.law.timed_programs_move.Goals as goal

pub returns : goal.returns
returns c = record { peer = sabm_goes_again; two = link_is_set_up; timer = firing_has_to_wait }
