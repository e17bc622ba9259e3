use Rattle.x25_line.proofs.PeerStations.{both_peers}
use Rattle.x25_line.proofs.law.stations_are_peers.Goals as goal

pub returns : goal.returns
returns c =
    let below = c.laws_below.ensures in
    both_peers below.reads below.healing.sessions.laws
