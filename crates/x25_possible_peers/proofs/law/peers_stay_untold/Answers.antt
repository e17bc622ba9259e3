use Rattle.std.proofs.Common.{map, ◌∷◌}
use Rattle.x25_possible.specs.laws.Possible.{Own}
use Rattle.x25_possible_peers.specs.laws.Peers.{phase_of, item_of}
use Rattle.x25_possible_peers.proofs.TapeLemmas.{explained}
use Rattle.x25_possible_peers.proofs.law.peers_stay_untold.Goals as goal

pub returns : goal.returns
returns c = λ r tape x y way stands.
    c.innocents_stay_untold.ensures r tape x (phase_of y.side) (map item_of way) (explained r (Own x ∷ tape) y way stands)
