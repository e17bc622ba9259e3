use Rattle.std.proofs.Common.{◌≡◌, drop}
use Rattle.x25_possible.specs.code.Steps.{are_polite}
use Rattle.x25_possible.proofs.spots.are_polite.Given as goal

abbrev pub invariant-loop-spot : goal.invariant-loop-spot
invariant-loop-spot l = are_polite l.packet (drop l.spot-index l.spots) ≡ are_polite l.packet l.spots
