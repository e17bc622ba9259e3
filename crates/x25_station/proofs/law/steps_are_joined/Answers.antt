use Rattle.x25_station.proofs.{GivenJoinLemmas.{given_joined}, JoinLemmas.{request_joined, receive_joined, quiet_joined, down_joined, up_joined}}
use Rattle.x25_station.proofs.law.steps_are_joined.Goals as goal

pub returns : goal.returns
returns c = record {
  request = request_joined c.calls_are_runs.ensures.calls c.notes_what_changes.ensures.put;
  given = given_joined c.calls_are_runs.ensures.calls c.notes_what_changes.ensures.put;
  receive = receive_joined c.calls_are_runs.ensures.hears c.notes_what_changes.ensures.put c.notes_what_changes.ensures.take
      c.notes_what_changes.ensures.take_hands_up;
  quiet = quiet_joined;
  down = down_joined;
  up = up_joined c.calls_are_runs.ensures.up;
}
