use Rattle.x25_link.proofs.rows.WindowRows.{take_follows, put_follows, timer_follows, disconnect_follows, abandon_follows, take_stays_out, disconnect_stays_out}
use Rattle.x25_link.proofs.law.follows_the_window.Goals as goal

pub returns : goal.returns
returns c = record {
  take = take_follows;
  put = put_follows;
  timer = timer_follows;
  disconnect = disconnect_follows;
  abandon = abandon_follows;
  take_out = take_stays_out;
  disconnect_out = disconnect_stays_out;
}
