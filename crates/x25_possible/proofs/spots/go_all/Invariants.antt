use Rattle.std.proofs.Common.{◌≡◌, drop}
use Rattle.x25_possible.specs.code.Steps.{all_of, goes}
use Rattle.x25_possible.proofs.spots.go_all.Given as goal

abbrev pub invariant-loop-spot : goal.invariant-loop-spot
invariant-loop-spot l =
    all_of (goes l.breaks l.role l.way l.packet) (drop l.spot-index l.spots) l.out.items
    ≡ all_of (goes l.breaks l.role l.way l.packet) l.spots l.fn.out.items
