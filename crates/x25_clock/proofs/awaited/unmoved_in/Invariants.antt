use Rattle.std.proofs.Common.{◌≡◌, drop}
use Rattle.x25_clock.specs.Clock.{unmoved_of}
use Rattle.x25_clock.proofs.awaited.unmoved_in.Given as goal

-- what is left leads to the same one
abbrev pub invariant-loop-wait : goal.invariant-loop-wait
invariant-loop-wait l = unmoved_of l.now (drop l.wait-index l.waits) ≡ unmoved_of l.now l.waits
