use Rattle.std.proofs.Common.{◌≡◌, ◌-◌, drop, length}
use Rattle.x25_possible_links.specs.code.Steps.{rushed}
use Rattle.x25_possible_links.proofs.spots.rushed.Given as goal

abbrev pub invariant-loop-stand : goal.invariant-loop-stand
invariant-loop-stand l = rushed (drop l.at l.front) l.stand ≡ rushed (drop l.fn.at l.front) l.fn.stand

abbrev pub decreases-loop-stand : goal.decreases-loop-stand
decreases-loop-stand l = length l.front - l.at
