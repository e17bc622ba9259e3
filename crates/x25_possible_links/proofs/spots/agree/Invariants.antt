use Rattle.std.proofs.Common.{◌≡◌, drop}
use Rattle.x25_possible_links.specs.code.Steps.{agree}
use Rattle.x25_possible_links.proofs.spots.agree.Given as goal

abbrev pub invariant-loop-spot : goal.invariant-loop-spot
invariant-loop-spot l = agree l.sent l.way (drop l.spot-index l.spots) ≡ agree l.sent l.way l.spots
