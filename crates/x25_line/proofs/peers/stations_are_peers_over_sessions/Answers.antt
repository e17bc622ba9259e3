use Rattle.x25_line.proofs.sessions.SessionSeenRuns.{both_peers}
use Rattle.x25_line.proofs.peers.stations_are_peers_over_sessions.Goals as goal

pub returns : goal.returns
returns c =
    let below = c.laws_below.ensures in
    both_peers below.reads below.healing.sessions
