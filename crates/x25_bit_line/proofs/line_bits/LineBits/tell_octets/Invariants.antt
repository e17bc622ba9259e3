use Rattle.std.proofs.Common.{◌≡◌, ◌++◌, ℕ, List, Option}
use Rattle.x25_bits.specs.Found.{octets_by}
use Rattle.x25_io.specs.code.Written.{Tells}
use Rattle.x25_bit_line.proofs.line_bits.LineBits.tell_octets.Given as goal

-- the first octets are told
abbrev pub invariant-loop-index : goal.invariant-loop-index
invariant-loop-index g l = (g.W.Sink.is_marked l.writer ≡ g.W.Sink.is_marked l.fn.writer)
    × ((old : Option (List ℕ)) (told : List ℕ) → Tells old (g.W.Sink.contents l.fn.writer) l.fn.output told
    → Tells old (g.W.Sink.contents l.writer) l.output (told ++ octets_by l.index l.self.bits))
