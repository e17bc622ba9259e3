use Rattle.std.proofs.Common.{◌≡◌, ℕ, ◌≤◌, drop}
use Rattle.x25_clock.specs.Clock.{wait_at}
use Rattle.x25_clock.proofs.awaited.find.Given as goal

-- those in front are of lower channels
abbrev pub invariant-loop-place : goal.invariant-loop-place
invariant-loop-place l = (h : ℕ) → l.channel ≤ h → wait_at h (drop l.place l.waits) ≡ wait_at h (drop l.at l.waits)
