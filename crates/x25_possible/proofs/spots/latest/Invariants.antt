use Rattle.std.proofs.Common.{◌≡◌, drop, true}
use Rattle.x25_possible.specs.code.Steps.{latest_from}
use Rattle.x25_possible.specs.declared.phase.Phase.TheVariants.{Idle}
use Rattle.x25_possible.proofs.spots.latest.Given as goal

abbrev pub invariant-loop-spot : goal.invariant-loop-spot
invariant-loop-spot l = latest_from l.is_first l.phase l.at (drop l.spot-index l.spots) ≡ latest_from true Idle 0 l.spots
