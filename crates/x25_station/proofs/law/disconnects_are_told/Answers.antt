use Rattle.x25_station.proofs.ClosingLawLemmas.{disconnect_awaited, hearing_closes, firing_closes, firing_accepted}
use Rattle.x25_station.proofs.law.disconnects_are_told.Goals as goal

pub returns : goal.returns
returns c = record {
  begins = disconnect_awaited c.sets_up_by_rows.ensures.disconnects;
  hears = λ d s octets is. hearing_closes d s is c.sets_up_by_rows.ensures.closes octets;
  fires = λ d s step is did. firing_closes d s is c.sets_up_by_rows.ensures.timer_closes step did;
  accepted = firing_accepted;
}
