use Rattle.std.proofs.Common.{◌≡◌, ℕ, Bool, List, Option}
use Rattle.x25_clock.specs.declared.times.Times.{Times}
use Rattle.x25_station.specs.Config.{Settings}
use Rattle.x25_clock.specs.Clock.{most_due}
use Rattle.x25_pipe.specs.Timed.{Timed, due_turns}
use Rattle.x25_pipe.specs.code.TimedStands.{StandsTimed}
use Rattle.x25_pipe.specs.code.TimedStream.{LeavesTimed}
use Rattle.x25_pipe.proofs.timed.TimedPipe.ask_due.Given as goal

-- what was asked for leads on to what is left
abbrev pub invariant-loop-left : goal.invariant-loop-left
invariant-loop-left g l = (g.W.Sink.is_marked l.writer ≡ g.W.Sink.is_marked l.fn.writer)
    × ((k : Settings) (times : Times) (old : Option (List ℕ)) (w : Timed) (told : List ℕ) (refused : Bool)
    → StandsTimed k times old (g.W.Sink.contents l.fn.writer) l.fn.self w told refused
    → LeavesTimed k times old (g.W.Sink.contents l.writer) l.self (due_turns k times l.left) told refused (due_turns k times (most_due w.deadlines) w))

abbrev pub decreases-loop-left : goal.decreases-loop-left
decreases-loop-left g l = l.left
