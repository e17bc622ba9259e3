use Rattle.x25_handshakes.proofs.TwoPeerLemmas.{keep_order}
use Rattle.x25_handshakes.proofs.law.two_peers_keep_order.Goals as goal

pub returns : goal.returns
returns c = keep_order
