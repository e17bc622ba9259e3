use Rattle.std.proofs.Common.{◌≡◌, ◌-◌, drop, length}
use Rattle.x25_possible.specs.code.Steps.{settles}
use Rattle.x25_possible.proofs.spots.settle.Given as goal

abbrev pub invariant-loop-role : goal.invariant-loop-role
invariant-loop-role l =
    settles l.role l.at (drop l.at l.way) l.phase l.out.items ≡ settles l.role l.fn.at (drop l.fn.at l.way) l.fn.phase l.fn.out.items

abbrev pub decreases-loop-role : goal.decreases-loop-role
decreases-loop-role l = length l.way - l.at
