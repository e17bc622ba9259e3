use Rattle.std.proofs.Common.{◌≡◌, drop}
use Rattle.x25_possible_links.specs.code.Steps.{are_in_session}
use Rattle.x25_possible_links.proofs.set.are_in_session.Given as goal

abbrev pub invariant-loop-spot : goal.invariant-loop-spot
invariant-loop-spot l = are_in_session (drop l.spot-index l.spots) ≡ are_in_session l.spots
