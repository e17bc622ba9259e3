use Rattle.std.proofs.Common.{◌≡◌, drop}
use Rattle.x25_possible.specs.code.Steps.{are_bound}
use Rattle.x25_possible.proofs.spots.are_bound.Given as goal

abbrev pub invariant-loop-spot : goal.invariant-loop-spot
invariant-loop-spot l = are_bound (drop l.spot-index l.spots) ≡ are_bound l.spots
