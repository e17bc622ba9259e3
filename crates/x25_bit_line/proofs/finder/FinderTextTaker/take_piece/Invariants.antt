use Rattle.std.proofs.Common.{◌≡◌, ◌++◌, ℕ, Bool, List, Option, length}
use Rattle.x25_bits.specs.FrameCheck.{bits_of}
use Rattle.x25_bit_line.specs.code.Reads.{Reads}
use Rattle.x25_bit_line.proofs.finder.FinderTextTaker.take_piece.Given as goal

-- what isn't left of the piece is read
abbrev pub invariant-loop-left : goal.invariant-loop-left
invariant-loop-left g l = (g.W.Sink.is_marked l.writer ≡ g.W.Sink.is_marked l.fn.writer) × (l.self.lines.from ≡ l.fn.self.lines.from)
    × ((part : List ℕ) × (l.fn.piece ≡ part ++ l.left)
    × ((old : Option (List ℕ)) (before : List Bool)
    → Reads l.fn.self.lines.from old (g.W.Sink.contents l.fn.writer) l.fn.self.deframer l.fn.self.lines.output before
    → Reads l.fn.self.lines.from old (g.W.Sink.contents l.writer) l.self.deframer l.self.lines.output (before ++ bits_of part)))

abbrev pub decreases-loop-left : goal.decreases-loop-left
decreases-loop-left g l = length l.left
