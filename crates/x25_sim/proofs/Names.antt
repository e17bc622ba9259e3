-- The names that many of these proofs cite, passed on from one place.
pub use Rattle.std.proofs.Common.{ℕ, ◌≡◌, ap, refl, List, None, ◌∙◌, Option, Some, sym, Bool, [], false, ◌++◌, subst, ◌∷◌, true, append_assoc, arith, length}
pub use Rattle.std.proofs.{Common.{suc, ◌<◌, drop, map, zero}, lemmas.List.{append-nil}}
pub use Rattle.x25_bits.specs.declared.role.{Role.{Role}, Role.TheVariants.{Dte, Dce}}
unfoldable pub use Rattle.x25_console.specs.Telling.{refusal_line}
unfoldable pub use Rattle.x25_io.specs.Lines.{lines_of}
pub use Rattle.x25_io.specs.code.Written.{AppendsPrefix}
unfoldable pub use Rattle.x25_script.specs.Reading.{line_in}
pub use Rattle.x25_sim.specs.Stage.{and_then, Turn, quiet, tried_of, turn_of, asked_turn, delivered_to, frames_if, marked, opened, told_between, unless_empty}
unfoldable pub use Rattle.x25_sim.specs.Stage.{event_turn, drained, emptied, pulled, simulated, tried, turns, asked_in, both_tried, fired, healed, line_turn}
pub use Rattle.x25_sim.specs.declared.stage.Stage.{Stage}
unfoldable pub use Rattle.x25_sim.specs.{Stage.{set_up, turn}, Telling.{saying_line}}
pub use Rattle.x25_sim.specs.{Telling.{sayings_text, has_refusal, Saying, refuses, taps}, code.Stands.{Stands}, declared.stage.Shown.{Shown}}
pub use Rattle.x25_station.specs.declared.config.Cfg.{Cfg}
pub use Rattle.x25_world.specs.{Healing.{next_end}, World.{World, Declined, Event, Happened, WorldOutcome, after, OnTap, Receives, happens, refusal_of, start}}
pub use Rattle.x25_world.specs.{code.FitsWorld.{FitsWorld}, declared.error.WorldError.{WorldError}}
