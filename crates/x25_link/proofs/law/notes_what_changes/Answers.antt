use Rattle.x25_link.proofs.rows.NoteRows.{take_tells, take_continues, take_hands_up, timer_tells, timer_continues, put_tells, connect_tells, disconnect_tells}
use Rattle.x25_link.proofs.rows.NoteRows.{abandon_tells, relink_tells}
use Rattle.x25_link.proofs.law.notes_what_changes.Goals as goal

pub returns : goal.returns
returns c = record {
  take = take_tells;
  take_continues = take_continues;
  take_hands_up = take_hands_up;
  timer = timer_tells;
  timer_continues = timer_continues;
  put = put_tells;
  connect = connect_tells;
  disconnect = disconnect_tells;
  abandon = abandon_tells;
  relink = relink_tells;
}
