use Rattle.x25_sim.proofs.rows.SimRows.{links_come_up, frames_are_written, link_goes_down, damage_is_seen, events_are_told, calls_collide}
use Rattle.x25_sim.proofs.rows.SimRows.{other_lines_are_refused, messages_arrive, reset_is_done, restart_is_done, both_ends_go_down, link_is_set_up}
use Rattle.x25_sim.proofs.rows.SimRows.{lost_ua_comes_again, link_is_set_up_again, lost_frame_arrives, both_ends_heal, waiting_message_is_pulled}
use Rattle.x25_sim.proofs.rows.SimRows.{links_that_are_down_heal}
use Rattle.x25_sim.proofs.law.scripts_move.Goals as goal

pub returns : goal.returns
returns c = record {
  set_up = links_come_up;
  frames = frames_are_written;
  events = events_are_told;
  down = link_goes_down;
  damage = damage_is_seen;
  collision = calls_collide;
  unread = other_lines_are_refused;
  messages = messages_arrive;
  reset = reset_is_done;
  restart = restart_is_done;
  disconnect = both_ends_go_down;
  connect = link_is_set_up;
  lost_ua = lost_ua_comes_again;
  again = link_is_set_up_again;
  healed = lost_frame_arrives;
  both_healed = both_ends_heal;
  pulled = waiting_message_is_pulled;
  nothing_healed = links_that_are_down_heal;
}
