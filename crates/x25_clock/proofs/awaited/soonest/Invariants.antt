use Rattle.std.proofs.Common.{◌≡◌, drop}
use Rattle.x25_clock.specs.Clock.{first_of}
use Rattle.x25_clock.proofs.awaited.soonest.Given as goal

-- what is left leads to the same moment
abbrev pub invariant-loop-wait : goal.invariant-loop-wait
invariant-loop-wait l = first_of l.first (drop l.wait-index l.waits) ≡ first_of l.fn.moment l.waits
