use Rattle.x25_link.proofs.rows.SetUpRows.{take_waits, take_sets_up, connect_waits, timer_waits, disconnect_closes}
use Rattle.x25_link.proofs.rows.SetUpRows.{take_closes, timer_closes, relink_is_two_steps}
use Rattle.x25_link.proofs.law.sets_up_by_rows.Goals as goal

pub returns : goal.returns
returns c = record {
  waits = take_waits;
  sets_up = take_sets_up;
  connects = connect_waits;
  timer = timer_waits;
  disconnects = disconnect_closes;
  closes = take_closes;
  timer_closes = timer_closes;
  relinks = relink_is_two_steps;
}
