use Rattle.std.proofs.Common.{◌≡◌, drop, None}
use Rattle.x25_possible.specs.code.Steps.{rude_from}
use Rattle.x25_possible.proofs.spots.rude.Given as goal

abbrev pub invariant-loop-spot : goal.invariant-loop-spot
invariant-loop-spot l = rude_from l.packet l.found (drop l.spot-index l.spots) ≡ rude_from l.packet None l.spots
