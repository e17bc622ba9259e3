use Rattle.std.proofs.Common.{◌≡◌, ◌-◌, drop, length}
use Rattle.x25_possible_links.specs.code.Steps.{gone}
use Rattle.x25_possible_links.proofs.spots.gone.Given as goal

abbrev pub invariant-loop-stand : goal.invariant-loop-stand
invariant-loop-stand l = gone (drop l.at l.way) l.stand ≡ gone (drop l.fn.at l.way) l.fn.stand

abbrev pub decreases-loop-stand : goal.decreases-loop-stand
decreases-loop-stand l = length l.way - l.at
