use Rattle.std.proofs.Common.{◌≡◌, drop}
use Rattle.x25_possible.specs.code.Steps.{is_one_idle}
use Rattle.x25_possible.proofs.spots.is_one_idle.Given as goal

abbrev pub invariant-loop-spot : goal.invariant-loop-spot
invariant-loop-spot l = is_one_idle (drop l.spot-index l.spots) ≡ is_one_idle l.spots
