use Rattle.std.proofs.Common.{◌≡◌, drop}
use Rattle.x25_possible.specs.code.Steps.{are_answered}
use Rattle.x25_possible.proofs.spots.are_answered.Given as goal

abbrev pub invariant-loop-spot : goal.invariant-loop-spot
invariant-loop-spot l = are_answered l.role l.packet (drop l.spot-index l.spots) ≡ are_answered l.role l.packet l.spots
