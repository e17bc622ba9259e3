use Rattle.std.proofs.Common.{◌≡◌, ◌≤◌, ◌++◌, ℕ, List, Option, take, drop, map}
use Rattle.x25_world.specs.World.{tapped}
use Rattle.x25_world.specs.code.ShownWorld.{line_of}
use Rattle.x25_sim.specs.Telling.{taps, sayings_text}
use Rattle.x25_io.specs.code.Written.{Tells}
use Rattle.x25_sim.proofs.telling.tell_frames.Given as goal

-- those before this place are told
abbrev pub invariant-loop-place : goal.invariant-loop-place
invariant-loop-place g l = (l.before ≤ l.place) × (g.W.Sink.is_marked l.writer ≡ g.W.Sink.is_marked l.fn.writer)
    × ((old : Option (List ℕ)) (told : List ℕ) → Tells old (g.W.Sink.contents l.fn.writer) l.fn.output told
    → Tells old (g.W.Sink.contents l.writer) l.output
    (told ++ sayings_text (map taps (tapped l.from (drop l.before (take l.place (line_of l.world l.direction)))))))
