use Rattle.std.proofs.Common.{◌≡◌, ◌++◌, ℕ, List, Option, length}
use Rattle.std.specs.List.{flat_map}
use Rattle.x25_io.specs.code.Written.{Tells}
use Rattle.x25_text.specs.Text.{octet_text}
use Rattle.x25_bit_line.proofs.span_lines.SpanLines.tell_digits.Given as goal

-- the digits of what isn't left are told
abbrev pub invariant-loop-left : goal.invariant-loop-left
invariant-loop-left g l = (g.W.Sink.is_marked l.writer ≡ g.W.Sink.is_marked l.fn.writer) × (l.self.from ≡ l.fn.self.from)
    × ((part : List ℕ) × (l.fn.octets ≡ part ++ l.left)
    × ((old : Option (List ℕ)) (told : List ℕ) → Tells old (g.W.Sink.contents l.fn.writer) l.fn.self.output told
    → Tells old (g.W.Sink.contents l.writer) l.self.output (told ++ flat_map octet_text part)))

abbrev pub decreases-loop-left : goal.decreases-loop-left
decreases-loop-left g l = length l.left
