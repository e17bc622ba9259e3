use Rattle.std.proofs.Common.{◌≡◌, drop}
use Rattle.x25_possible_links.specs.code.Steps.{least}
use Rattle.x25_possible_links.proofs.spots.least.Given as goal

abbrev pub invariant-loop-spot : goal.invariant-loop-spot
invariant-loop-spot l = least (drop l.spot-index l.spots) l.least ≡ least l.spots l.fn.most
