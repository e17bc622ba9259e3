use Rattle.std.proofs.Common.{◌≡◌, drop}
use Rattle.x25_possible_links.specs.code.Steps.{has_request}
use Rattle.x25_possible_links.proofs.set.has_request.Given as goal

abbrev pub invariant-loop-frame : goal.invariant-loop-frame
invariant-loop-frame l = has_request (drop l.frame-index l.way) ≡ has_request l.way
