use Rattle.std.proofs.Common.{◌≡◌}
use Rattle.x25_possible_links.specs.code.Steps.{each_of, grown}
use Rattle.x25_possible_links.proofs.LoopLemmas.{left_of}
use Rattle.x25_possible_links.proofs.spots.grow_all.Given as goal

abbrev pub invariant-loop-spot : goal.invariant-loop-spot
invariant-loop-spot l = left_of (grown l.last l.way) l.spot-index l.spots ≡ each_of (grown l.last l.way) l.fn.spots
