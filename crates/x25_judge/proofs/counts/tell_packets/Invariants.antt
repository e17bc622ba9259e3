use Rattle.std.proofs.Common.{◌≡◌, ◌++◌, ℕ, List, Option, take}
use Rattle.x25_io.specs.code.Written.{Tells}
use Rattle.x25_judge.proofs.CountLemmas.{lines_of_all}
use Rattle.x25_judge.proofs.counts.tell_packets.Given as goal

-- the first ones are told
abbrev pub invariant-loop-count : goal.invariant-loop-count
invariant-loop-count g l = (g.W.Sink.is_marked l.writer ≡ g.W.Sink.is_marked l.fn.writer)
    × ((old : Option (List ℕ)) (told : List ℕ) → Tells old (g.W.Sink.contents l.fn.writer) l.fn.output told
    → Tells old (g.W.Sink.contents l.writer) l.output (told ++ lines_of_all l.from (take l.count-index l.counts)))
