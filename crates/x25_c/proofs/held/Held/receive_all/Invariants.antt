use Rattle.std.{proofs.Common.{◌≡◌, ◌≤◌, None, length, take}, specs.Prelude.{sum}}
use Rattle.x25_c.specs.{Held.{whole_of}, code.Receives.{Received}}
use Rattle.x25_c.proofs.held.Held.receive_all.Given as goal

abbrev pub invariant-loop-place : goal.invariant-loop-place
invariant-loop-place l =
    (l.at ≤ length l.octets) × (l.at ≡ sum (take l.place l.counts)) × Received l.octets l.counts l.place l.initial.self l.self (whole_of l.self)
    × (l.self.passed ≡ None)
