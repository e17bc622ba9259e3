use Rattle.std.proofs.Common.{◌≡◌, ◌-◌, take, drop}
use Rattle.x25_bit_line.proofs.line_bits.bits_from.Given as goal

abbrev pub invariant-loop-at : goal.invariant-loop-at
invariant-loop-at l = l.rest ≡ take (l.at - l.place) (drop l.place l.bits)
