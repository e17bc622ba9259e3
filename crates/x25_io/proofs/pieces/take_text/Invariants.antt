use Rattle.std.proofs.Common.{◌≡◌, ◌+◌, ◌≤◌, ℕ, List, Option, Some, length}
use Rattle.x25_io.proofs.pieces.take_text.Given as goal

-- with what is still to be read the text is whole; each call of the reader gave an octet
abbrev pub invariant-loop : goal.invariant-loop
invariant-loop g l = (g.R.Source.is_marked l.reader ≡ g.R.Source.is_marked l.fn.reader) × (g.W.Sink.is_marked l.writer ≡ g.W.Sink.is_marked l.fn.writer)
    × ((setting : g.T.TextTaker.Setting) (old : Option (List ℕ)) (text : List ℕ) → g.R.Source.remaining l.fn.reader ≡ Some text
    → g.T.TextTaker.leads setting l.fn.taker old (g.W.Sink.contents l.fn.writer) text text
    → (rest : List ℕ) × (g.R.Source.remaining l.reader ≡ Some rest) × (l.counter + length rest ≤ length text)
    × g.T.TextTaker.leads setting l.taker old (g.W.Sink.contents l.writer) rest text)
