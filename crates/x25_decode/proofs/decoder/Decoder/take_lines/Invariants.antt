use Rattle.std.proofs.Common.{◌≡◌, ℕ, length, ◌++◌, List, Option, Bool}
use Rattle.x25_decode.specs.code.Stream.{LeadsFrom}
use Rattle.x25_decode.proofs.decoder.Decoder.take_lines.Given as goal

-- what is left of the piece is still to be answered
abbrev pub invariant-loop-after : goal.invariant-loop-after
invariant-loop-after g l = (g.W.Sink.is_marked l.writer ≡ g.W.Sink.is_marked l.fn.writer) × (l.self.reading ≡ l.fn.self.reading)
    × ((old : Option (List ℕ)) (rest all : List ℕ) (any : Bool)
    → LeadsFrom old (g.W.Sink.contents l.fn.writer) l.fn.self (l.fn.piece ++ rest) all any
    → LeadsFrom old (g.W.Sink.contents l.writer) l.self (l.left ++ rest) all any)

abbrev pub decreases-loop-after : goal.decreases-loop-after
decreases-loop-after g l = length l.left
