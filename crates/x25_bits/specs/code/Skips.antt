-- What is left to be held once seven 1 bits came behind a flag: no content. Profile.
use Rattle.std.specs.Prelude.{◌≡◌, ℕ, ◌<◌, ◌≤◌, List, [], true}
use Rattle.x25_bits.specs.FrameCheck.{bits_of}
use Rattle.x25_bits.specs.code.FitsSeen.{FitsSeen}
use Rattle.x25_bits.specs.code.Held.{Seen, seen_from, found_from}
use Rattle.x25_bits.specs.code.Reading.{part}
use Rattle.x25_bits.specs.declared.deframer.Deframer.{Deframer}
use Rattle.x25_bits.specs.declared.scan.Scan.{Scan}
use Rattle.x25_bits.specs.declared.skipping.Skipped.{Skipped}

pub record Skips (scan : Scan) (v : Seen) : Type 0 where
  pub opened : scan.is_open ≡ v.is_open
  pub run : scan.run ≡ v.held.run
  pub aborted : scan.is_aborted ≡ v.held.is_aborted
  pub over : v.held.is_aborted ≡ true

-- The bits from a place on are passed over, up to a place that is no later than the last: nothing is found in them, and
-- the scan is the one behind them.
pub record PassesOver (d : Deframer) (octets : List ℕ) (place last : ℕ) (s : Skipped) : Type 0 where
  pub skips : (v : Seen) → FitsSeen d v → Skips s.scan (seen_from v (part place s.end (bits_of octets)))
  pub none : (v : Seen) → FitsSeen d v → found_from v (part place s.end (bits_of octets)) ≡ []
  pub low : place < s.end
  pub high : s.end ≤ last
