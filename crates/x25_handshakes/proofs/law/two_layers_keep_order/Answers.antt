use Rattle.x25_handshakes.proofs.TwoLayerRuns.{layers_keep_order}
use Rattle.x25_handshakes.proofs.law.two_layers_keep_order.Goals as goal

pub returns : goal.returns
returns c = layers_keep_order c.laws_below.ensures
