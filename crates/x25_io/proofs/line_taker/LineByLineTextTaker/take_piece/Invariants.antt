use Rattle.std.proofs.Common.{◌≡◌, ℕ, length, ◌++◌, List, Option}
use Rattle.x25_io.specs.code.LinesLead.{LinesLead}
use Rattle.x25_io.proofs.line_taker.LineByLineTextTaker.take_piece.Given as goal

-- what is left of the piece is still to be taken
abbrev pub invariant-loop-tail : goal.invariant-loop-tail
invariant-loop-tail g l = (g.W.Sink.is_marked l.writer ≡ g.W.Sink.is_marked l.fn.writer)
    × ((setting : g.T.LineTaker.Setting) (old : Option (List ℕ)) (rest text : List ℕ)
    → LinesLead (λ lines. g.T.LineTaker.stands setting l.fn.self.taker old (g.W.Sink.contents l.fn.writer) lines text) l.fn.self.held (l.fn.piece ++ rest)
    → LinesLead (λ lines. g.T.LineTaker.stands setting l.self.taker old (g.W.Sink.contents l.writer) lines text) l.self.held (l.left ++ rest))

abbrev pub decreases-loop-tail : goal.decreases-loop-tail
decreases-loop-tail g l = length l.left
