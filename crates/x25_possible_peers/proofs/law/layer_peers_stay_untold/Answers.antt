use Rattle.std.proofs.Common.{◌∷◌}
use Rattle.x25_possible.specs.laws.Possible.{Own}
use Rattle.x25_possible_peers.specs.laws.LayerPeers.{phase_on, way_on}
use Rattle.x25_possible_peers.proofs.LayerTapeLemmas.{explained}
use Rattle.x25_possible_peers.proofs.law.layer_peers_stay_untold.Goals as goal

pub returns : goal.returns
returns c = λ r h tape x y way run.
    c.innocents_stay_untold.ensures r tape x (phase_on h y.side) (way_on h way) (explained r h (Own x ∷ tape) y way run)
