use Rattle.x25_station.proofs.TimerLemmas.{deadline_is_true, firing_is_taken, off_is_refused, pull_is_heeded, begins_where_due, begins_behind_pull}
use Rattle.x25_station.proofs.law.deadlines_are_true.Goals as goal

pub returns : goal.returns
returns c = record {
  deadline = deadline_is_true;
  taken = firing_is_taken;
  off = off_is_refused;
  pulled = pull_is_heeded;
  due = begins_where_due;
  due_pulled = begins_behind_pull;
}
