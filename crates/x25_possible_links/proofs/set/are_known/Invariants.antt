use Rattle.std.proofs.Common.{◌≡◌, drop}
use Rattle.x25_possible_links.specs.code.Steps.{are_known}
use Rattle.x25_possible_links.proofs.set.are_known.Given as goal

abbrev pub invariant-loop-spot : goal.invariant-loop-spot
invariant-loop-spot l = are_known (drop l.spot-index l.spots) ≡ are_known l.spots
