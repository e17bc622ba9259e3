use Rattle.std.proofs.Common.{◌≡◌, drop}
use Rattle.x25_judge.specs.Links.{forgets_each}
use Rattle.x25_judge.proofs.links.forget_each.Given as goal

abbrev pub invariant-loop-spot : goal.invariant-loop-spot
invariant-loop-spot l = forgets_each (drop l.spot-index l.spots) l.held ≡ forgets_each l.spots l.fn.held
