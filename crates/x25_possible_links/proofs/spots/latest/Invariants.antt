use Rattle.std.proofs.Common.{◌≡◌, drop, get_or}
use Rattle.x25_possible_links.specs.code.Steps.{farthest, spot_at}
use Rattle.x25_possible_links.specs.declared.stand.Stand.TheVariants.{Out}
use Rattle.x25_possible_links.proofs.spots.latest.Given as goal

abbrev pub invariant-loop-spot : goal.invariant-loop-spot
invariant-loop-spot l =
    farthest (drop l.spot-index l.spots) (spot_at l.far.at l.far.stand)
    ≡ farthest l.spots (get_or l.spots 0 (spot_at 0 Out))
