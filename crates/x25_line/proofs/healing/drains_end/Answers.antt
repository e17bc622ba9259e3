use Rattle.x25_line.proofs.DrainRuns.{sessions_drain_end, some_sessions_drain}
use Rattle.x25_line.proofs.healing.drains_end.Goals as goal

pub returns : goal.returns
returns c =
    let below = c.laws_below.ensures in
    record { sessions = sessions_drain_end below.reads below.healing; some_sessions = some_sessions_drain below.reads below.healing }
