use Rattle.std.proofs.Common.{◌≡◌, map}
use Rattle.x25_possible_links.specs.code.Steps.{shifted}
use Rattle.x25_possible_links.proofs.LoopLemmas.{left_mapped}
use Rattle.x25_possible_links.proofs.spots.shift_all.Given as goal

abbrev pub invariant-loop-spot : goal.invariant-loop-spot
invariant-loop-spot l = left_mapped (shifted l.count) l.spot-index l.spots ≡ map (shifted l.count) l.fn.spots
