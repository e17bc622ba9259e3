use Rattle.x25_line.proofs.rows.StationRowLemmas.{packet_goes, packets_cross, lost_comes_again, damaged_comes_again, disconnect_ends, abandon_ends}
use Rattle.x25_line.proofs.rows.StationRowLemmas.{connect_sets_up, connect_is_declined}
use Rattle.x25_line.proofs.law.links_move.Goals as goal

pub returns : goal.returns
returns c =
    let reads = c.reads_what_is_spelled.ensures.reads in
    record {
      goes = packet_goes reads;
      cross = packets_cross reads;
      lost = lost_comes_again reads;
      damaged = damaged_comes_again reads;
      disconnect = disconnect_ends reads;
      abandon = abandon_ends;
      connect = connect_sets_up reads;
      declined = connect_is_declined reads;
    }
