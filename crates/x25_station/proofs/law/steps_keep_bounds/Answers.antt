use Rattle.x25_station.proofs.{GivingLemmas.{given_kept}, KeepLemmas.{LinkLaws, connect_kept, timer_kept, request_kept, command_kept, receive_kept}}
use Rattle.x25_station.proofs.law.steps_keep_bounds.Goals as goal

known : goal.After-notes_what_changes → LinkLaws
known c = record {
  put = c.notes_what_changes.ensures.put;
  take = c.notes_what_changes.ensures.take;
  take_continues = c.notes_what_changes.ensures.take_continues;
  take_hands_up = c.notes_what_changes.ensures.take_hands_up;
  timer = c.notes_what_changes.ensures.timer;
  timer_continues = c.notes_what_changes.ensures.timer_continues;
  connect = c.notes_what_changes.ensures.connect;
  disconnect = c.notes_what_changes.ensures.disconnect;
  abandon = c.notes_what_changes.ensures.abandon;
  relink = c.notes_what_changes.ensures.relink;
}

pub returns : goal.returns
returns c = record {
  connect = connect_kept (known c);
  timer = timer_kept (known c);
  request = request_kept (known c).put;
  command = command_kept (known c) (given_kept (known c).put);
  given = given_kept (known c).put;
  receive = receive_kept (known c);
}
