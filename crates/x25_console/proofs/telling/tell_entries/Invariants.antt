use Rattle.std.proofs.Common.{◌≡◌, ◌++◌, ℕ, List, Option, take, map}
use Rattle.x25_station.specs.code.PlainEntry.{plain_entry}
use Rattle.x25_io.specs.code.Written.{Tells}
use Rattle.x25_console.specs.Telling.{entries_text}
use Rattle.x25_console.proofs.telling.tell_entries.Given as goal

-- the first ones are told
abbrev pub invariant-loop-entry : goal.invariant-loop-entry
invariant-loop-entry g l = (g.W.Sink.is_marked l.writer ≡ g.W.Sink.is_marked l.fn.writer)
    × ((old : Option (List ℕ)) (told : List ℕ) → Tells old (g.W.Sink.contents l.fn.writer) l.fn.output told
    → Tells old (g.W.Sink.contents l.writer) l.output (told ++ entries_text l.at (map (plain_entry l.lent) (take l.entry-index l.list))))
