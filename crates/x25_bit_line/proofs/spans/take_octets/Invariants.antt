use Rattle.std.proofs.Common.{◌≡◌, ◌++◌, ◌*◌, ◌-◌, ◌≤◌, ℕ, Bool, List, Option, length, take}
use Rattle.x25_bits.specs.FrameCheck.{bits_of}
use Rattle.x25_bit_line.specs.code.Reads.{Reads}
use Rattle.x25_bit_line.proofs.spans.take_octets.Given as goal

-- the bits up to a place are read
abbrev pub invariant-loop-at : goal.invariant-loop-at
invariant-loop-at g l = (g.W.Sink.is_marked l.writer ≡ g.W.Sink.is_marked l.fn.writer) × (l.lines.from ≡ l.fn.lines.from) × (l.at ≤ 8 * length l.octets)
    × ((old : Option (List ℕ)) (before : List Bool) → Reads l.fn.lines.from old (g.W.Sink.contents l.fn.writer) l.fn.deframer l.fn.lines.output before
    → Reads l.fn.lines.from old (g.W.Sink.contents l.writer) l.deframer l.lines.output (before ++ take l.at (bits_of l.octets)))

abbrev pub decreases-loop-at : goal.decreases-loop-at
decreases-loop-at g l = 8 * length l.octets - l.at
