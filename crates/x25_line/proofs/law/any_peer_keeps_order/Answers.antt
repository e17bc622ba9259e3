use Rattle.x25_line.proofs.PeerOrder.{keeps_order, is_blameless}
use Rattle.x25_line.proofs.law.any_peer_keeps_order.Goals as goal

pub returns : goal.returns
returns c =
    let below = c.laws_below.ensures in
    let laws = below.healing.sessions.laws in
    record { order = keeps_order below.reads laws; blameless = is_blameless below.reads laws }
