use Rattle.std.proofs.Common.{◌≡◌, drop}
use Rattle.x25_possible.specs.code.Steps.{are_again}
use Rattle.x25_possible.proofs.spots.are_again.Given as goal

abbrev pub invariant-loop-spot : goal.invariant-loop-spot
invariant-loop-spot l = are_again l.packet (drop l.spot-index l.spots) ≡ are_again l.packet l.spots
