use Rattle.std.proofs.Common.{◌≡◌, drop}
use Rattle.x25_possible.specs.code.Steps.{are_at_end}
use Rattle.x25_possible.proofs.spots.is_past.Given as goal

abbrev pub invariant-loop-spot : goal.invariant-loop-spot
invariant-loop-spot l = are_at_end l.end (drop l.spot-index l.spots) ≡ are_at_end l.end l.spots
