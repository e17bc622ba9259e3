use Rattle.std.proofs.Common.{◌≡◌, ◌-◌, drop, length}
use Rattle.x25_possible_links.specs.code.Steps.{goes}
use Rattle.x25_possible_links.proofs.spots.goes.Given as goal

abbrev pub invariant-loop-mode : goal.invariant-loop-mode
invariant-loop-mode l = goes l.mode l.frame l.way l.at (drop l.at l.way) l.stand l.out.items
    ≡ goes l.mode l.frame l.way l.fn.at (drop l.fn.at l.way) l.fn.stand l.fn.out.items

abbrev pub decreases-loop-mode : goal.decreases-loop-mode
decreases-loop-mode l = length l.way - l.at
