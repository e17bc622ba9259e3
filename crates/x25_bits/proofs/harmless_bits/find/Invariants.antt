use Rattle.std.proofs.Common.{◌≡◌, ◌≤◌, ◌-◌, ◌++◌, Bool, List, length, take}
use Rattle.x25_bits.specs.code.Fits.{Fits}
use Rattle.x25_bits.specs.code.Plain.{plains}
use Rattle.x25_bits.specs.laws.Cuts.{found_more}
use Rattle.x25_bits.proofs.harmless_bits.find.Given as goal

abbrev pub invariant-loop-at : goal.invariant-loop-at
invariant-loop-at l = record {
  high : l.at ≤ length l.bits;
  fits : (before : List Bool) → Fits l.fn.deframer before → Fits l.deframer (before ++ take l.at l.bits);
  found : (before : List Bool) → Fits l.fn.deframer before → plains l.found.items ≡ plains l.fn.found.items ++ found_more before (take l.at l.bits);
}

abbrev pub decreases-loop-at : goal.decreases-loop-at
decreases-loop-at l = length l.bits - l.at
