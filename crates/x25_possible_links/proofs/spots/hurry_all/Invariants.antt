use Rattle.std.proofs.Common.{◌≡◌, map}
use Rattle.x25_possible_links.specs.code.Steps.{hurried}
use Rattle.x25_possible_links.proofs.LoopLemmas.{left_mapped}
use Rattle.x25_possible_links.proofs.spots.hurry_all.Given as goal

abbrev pub invariant-loop-spot : goal.invariant-loop-spot
invariant-loop-spot l = left_mapped (hurried l.count l.front) l.spot-index l.spots ≡ map (hurried l.count l.front) l.fn.spots
