use Rattle.std.proofs.Common.{◌≡◌, map}
use Rattle.x25_clock.specs.Clock.{rotated}
use Rattle.x25_clock.proofs.ListLemmas.{left_mapped}
use Rattle.x25_clock.proofs.awaited.rotate_in.Given as goal

-- those in front are changed
abbrev pub invariant-loop-wait : goal.invariant-loop-wait
invariant-loop-wait l = left_mapped (rotated l.times l.now l.channel) l.wait-index l.wait-items ≡ map (rotated l.times l.now l.channel) l.initial.wait-items
