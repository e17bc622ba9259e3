use Rattle.x25_world.proofs.rows.RowLemmas.{given_arrives, confirmed_arrives, connect_goes_again, second_meets_first, second_meet}
use Rattle.x25_world.proofs.law.two_stations_move.Goals as goal

pub returns : goal.returns
returns c = record {
  given = given_arrives;
  confirmed = confirmed_arrives;
  connect_again = connect_goes_again;
  sessions = second_meets_first;
  second = second_meet;
}
