use Rattle.std.proofs.Common.{◌≡◌, ◌≤◌, ◌-◌, ◌*◌, []}
use Rattle.x25_bits.specs.FrameCheck.{bits_of}
use Rattle.x25_bits.specs.code.FitsSeen.{FitsSeen}
use Rattle.x25_bits.specs.code.Held.{Seen, seen_from, found_from}
use Rattle.x25_bits.specs.code.Reading.{part}
use Rattle.x25_bits.proofs.deframer.Deframer.idle_until.Given as goal

abbrev pub invariant-loop-place : goal.invariant-loop-place
invariant-loop-place l = record {
  low : l.at ≤ l.place;
  high : l.place ≤ l.end;
  seen : (v : Seen) → FitsSeen l.self v → seen_from v (part (8 * l.at) (8 * l.place) (bits_of l.octets)) ≡ v;
  found : (v : Seen) → FitsSeen l.self v → found_from v (part (8 * l.at) (8 * l.place) (bits_of l.octets)) ≡ [];
}

abbrev pub decreases-loop-place : goal.decreases-loop-place
decreases-loop-place l = l.end - l.place
