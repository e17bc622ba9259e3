use Rattle.std.proofs.Common.{◌≡◌, drop}
use Rattle.x25_possible.specs.code.Steps.{is_there}
use Rattle.x25_possible.proofs.spots.is_there.Given as goal

abbrev pub invariant-loop-other : goal.invariant-loop-other
invariant-loop-other l = is_there l.spot (drop l.other-index l.spots) ≡ is_there l.spot l.spots
