use Rattle.std.proofs.Common.{◌≡◌, drop}
use Rattle.x25_possible_links.specs.code.Steps.{is_covered}
use Rattle.x25_possible_links.proofs.spots.is_covered.Given as goal

abbrev pub invariant-loop-other : goal.invariant-loop-other
invariant-loop-other l = is_covered l.spot (drop l.other-index l.spots) ≡ is_covered l.spot l.spots
