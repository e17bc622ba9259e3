use Rattle.x25_line.proofs.rows.PeerRowLemmas.{odd_peer_moves, silent_tape_moves, tape_tells}
use Rattle.x25_line.proofs.law.peers_move.Goals as goal

pub returns : goal.returns
returns c =
    let reads = c.reads_what_is_spelled.ensures.reads in
    record { odd = odd_peer_moves reads; silent = silent_tape_moves reads; told = tape_tells }
