use Rattle.x25_joined.proofs.rows.JoinedRowLemmas.{link_is_set_up, lost_sabm_goes_again, firing_has_to_wait, other_lines_do_nothing, message_arrives}
use Rattle.x25_joined.proofs.law.programs_move.Goals as goal

pub returns : goal.returns
returns c = record {
  set_up = link_is_set_up;
  lost = lost_sabm_goes_again;
  timer = firing_has_to_wait;
  others = other_lines_do_nothing;
  message = message_arrives;
}
