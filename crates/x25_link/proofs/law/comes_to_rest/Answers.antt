use Rattle.x25_link.proofs.rows.RestRows.{take_says_all, put_says_all, timer_says_all, connect_says_all, disconnect_says_all, abandon_says_all}
use Rattle.x25_link.proofs.rows.RestRows.{no_timer_is_idle, all_heard_is_rest, rest_is_all_heard}
use Rattle.x25_link.proofs.law.comes_to_rest.Goals as goal

pub returns : goal.returns
returns c = record {
  take = take_says_all;
  put = put_says_all;
  timer = timer_says_all;
  connect = connect_says_all;
  disconnect = disconnect_says_all;
  abandon = abandon_says_all;
  no_timer = no_timer_is_idle;
  all_heard = all_heard_is_rest;
  only_then = rest_is_all_heard;
}
