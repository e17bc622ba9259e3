use Rattle.x25_line.proofs.rows.SessionRowLemmas.{sets_up_from_nothing, sets_up_again}
use Rattle.x25_line.proofs.law.sessions_move.Goals as goal

pub returns : goal.returns
returns c =
    let reads = c.reads_what_is_spelled.ensures.reads in
    record { first = sets_up_from_nothing reads; second = sets_up_again reads }
