use Rattle.std.proofs.Common.{◌≡◌, ◌-◌, drop, length}
use Rattle.x25_possible_links.specs.code.Steps.{come}
use Rattle.x25_possible_links.proofs.spots.come.Given as goal

abbrev pub invariant-loop-stand : goal.invariant-loop-stand
invariant-loop-stand l = come (drop l.at l.way) l.stand ≡ come (drop l.fn.at l.way) l.fn.stand

abbrev pub decreases-loop-stand : goal.decreases-loop-stand
decreases-loop-stand l = length l.way - l.at
