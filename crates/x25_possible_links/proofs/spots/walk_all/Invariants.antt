use Rattle.std.proofs.Common.{◌≡◌, drop}
use Rattle.x25_possible_links.specs.code.Steps.{all_of, walks}
use Rattle.x25_possible_links.proofs.spots.walk_all.Given as goal

abbrev pub invariant-loop-spot : goal.invariant-loop-spot
invariant-loop-spot l =
    all_of (walks l.mode l.frame l.way) (drop l.spot-index l.spots) l.out.items ≡ all_of (walks l.mode l.frame l.way) l.spots l.fn.out.items
