use Rattle.std.proofs.Common.{◌≡◌, ◌≤◌, ◌+◌, ◌-◌, ◌*◌, ◌++◌, length, take}
use Rattle.x25_bits.specs.FrameCheck.{bits_of}
use Rattle.x25_bits.specs.Passing.{PassesOn, kept_from}
use Rattle.x25_bits.specs.code.Reading.{part}
use Rattle.x25_bits.proofs.contents.take_into.Given as goal

abbrev pub invariant-loop-place : goal.invariant-loop-place
invariant-loop-place l = record {
  low : l.at ≤ l.place;
  high : l.place ≤ l.end;
  few : l.count ≤ l.size + 8 * (l.place - l.at);
  passes : PassesOn l.run l.is_inserted l.fn.scan.run l.fn.scan.is_inserted (part (8 * l.at) (8 * l.place) (bits_of l.octets));
  kept : take l.count (bits_of l.memory) ≡ take l.size (bits_of l.initial.memory) ++ kept_from l.fn.scan.run (part (8 * l.at) (8 * l.place) (bits_of l.octets));
  len : length l.memory ≡ length l.initial.memory;
}

abbrev pub decreases-loop-place : goal.decreases-loop-place
decreases-loop-place l = l.end - l.place
