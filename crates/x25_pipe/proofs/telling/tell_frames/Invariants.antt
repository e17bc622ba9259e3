use Rattle.std.proofs.Common.{◌≡◌, ◌++◌, ℕ, List, Option, take, map}
use Rattle.x25_pipe.specs.Pipe.{sends, sayings_text}
use Rattle.x25_io.specs.code.Written.{Tells}
use Rattle.x25_pipe.proofs.telling.tell_frames.Given as goal

-- the first ones are told
abbrev pub invariant-loop-frame : goal.invariant-loop-frame
invariant-loop-frame g l = (g.W.Sink.is_marked l.writer ≡ g.W.Sink.is_marked l.fn.writer)
    × ((old : Option (List ℕ)) (told : List ℕ) → Tells old (g.W.Sink.contents l.fn.writer) l.fn.output told
    → Tells old (g.W.Sink.contents l.writer) l.output (told ++ sayings_text l.fn.end (map sends (map (λ frame. frame.items) (take l.frame-index l.frames)))))
