use Rattle.std.proofs.Common.{◌≡◌, map}
use Rattle.x25_clock.specs.Clock.{renewed}
use Rattle.x25_clock.proofs.ListLemmas.{left_mapped}
use Rattle.x25_clock.proofs.awaited.renew_in.Given as goal

-- those in front are changed
abbrev pub invariant-loop-wait : goal.invariant-loop-wait
invariant-loop-wait l = left_mapped (renewed l.times l.now l.channel) l.wait-index l.wait-items ≡ map (renewed l.times l.now l.channel) l.initial.wait-items
