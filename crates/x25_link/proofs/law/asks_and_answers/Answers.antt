use Rattle.x25_link.proofs.rows.AnswerRows.{timer_asks, poll_is_answered, final_ends_recovery, ready_is_heard, rej_goes_back, wanted_is_taken}
use Rattle.x25_link.proofs.rows.AnswerRows.{other_is_passed_over, out_declines, dm_leaves_up}
use Rattle.x25_link.proofs.law.asks_and_answers.Goals as goal

pub returns : goal.returns
returns c = record {
  timer = timer_asks;
  poll = poll_is_answered;
  recovery = final_ends_recovery;
  ready = ready_is_heard;
  rej = rej_goes_back;
  wanted = wanted_is_taken;
  other = other_is_passed_over;
  out = out_declines;
  dm = dm_leaves_up;
}
