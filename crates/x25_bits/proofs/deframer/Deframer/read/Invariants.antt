use Rattle.std.proofs.Common.{◌≤◌, ◌-◌}
use Rattle.x25_bits.specs.FrameCheck.{bits_of}
use Rattle.x25_bits.proofs.LendingLemmas.{Reads}
use Rattle.x25_bits.proofs.deframer.Deframer.read.Given as goal

abbrev pub invariant-loop-place : goal.invariant-loop-place
invariant-loop-place l = record {
  low : l.at ≤ l.place;
  high : l.place ≤ l.end;
  reads : Reads l.initial.self l.at l.place (bits_of l.octets) l.self;
}

abbrev pub decreases-loop-place : goal.decreases-loop-place
decreases-loop-place l = l.end - l.place
