-- The names that many of these proofs cite, passed on from one place.
pub use Rattle.std.proofs.Common.{List, sym, ℕ, ◌≡◌, Option, ap, refl, ◌∙◌, [], subst, Bool, None, ◌++◌, ◌∷◌, Some, false, arith, length, ◌<◌, ◌≤◌}
pub use Rattle.std.proofs.{Common.{if◌then◌else◌, true, ◌+◌, Result, append_assoc, map, nat_lt, suc, zero, ◌==◌}, Math.Bool.{or-false}, lemmas.Bool.{lt-leb}}
pub use Rattle.std.{proofs.lemmas.List.{append-nil}, specs.Prelude.{◌||◌}}
pub use Rattle.x25_bits.specs.declared.role.Role.{Role}
pub use Rattle.x25_clock.specs.{Clock.{after_due, Deadlines, Seen, due_of, heeded}, Due.{asked_of, event_for}, declared.due.Due.{Due}, declared.times.Times.{Times}}
unfoldable pub use Rattle.x25_io.specs.Lines.{lines_of}
pub use Rattle.x25_io.proofs.ToldLemmas.{prefix_more}
pub use Rattle.x25_io.specs.code.Written.{AppendsPrefix}
pub use Rattle.x25_layer.specs.Calls.{PullsAll}
pub use Rattle.x25_pipe.specs.Pipe.{has_refusal, sayings_text, Act, Turn, act_of, and_then, asked_act, nothing_act, pulled_behind}
pub use Rattle.x25_pipe.specs.declared.pipe.Pipe.{Pipe}
unfoldable pub use Rattle.x25_pipe.specs.{Pipe.{event_in, event_act, saying_line, turn, turns}, Timed.{time_said, due_turns, timed_turn, timed_turns}}
pub use Rattle.x25_pipe.specs.{Timed.{Timed, TimedTurn, answer_turn, due_first, insist_turn, moment_of, new_timed, told_due}, code.Stands.{Stands}}
pub use Rattle.x25_station.specs.{Config.{Settings, layer_settings}, Entry.{StationEntry}, Station.{Station}, Step.{Did, Outcome, Refused}}
pub use Rattle.x25_station.specs.{code.FitsStation.{FitsStation}, laws.TimerLaw.{StationEvent}}
