-- The names that many of these proofs cite, passed on from one place.
unfoldable pub use Rattle.hex.specs.Hex.{decode_pairs}
pub use Rattle.std.proofs.Common.{List, refl, ℕ, [], ◌∷◌, ◌≡◌, ap, true, ◌∙◌, None, Some, arith, sym, ◌++◌, Bool, false, Option, length, subst, ◌<◌, append-nil}
pub use Rattle.std.proofs.{Common.{suc, append_assoc, map, nat_le, ◌&&◌, ◌+◌, ◌≤◌}, lemmas.List.Elements.{All-nil, All-cons}}
pub use Rattle.x25_bits.specs.{Role.{other}, declared.role.Role.{Role}, declared.role.Role.TheVariants.{Dte, Dce}}
unfoldable pub use Rattle.x25_console.specs.Telling.{frame_line}
pub use Rattle.x25_frame.specs.Spelling.{spelling_of}
pub use Rattle.x25_io.specs.Lines.{IsOpen}
unfoldable pub use Rattle.x25_io.specs.Lines.{lines_of}
pub use Rattle.x25_joined.specs.laws.Joined.{entries_in, frames_in, written}
pub use Rattle.x25_pipe.specs.Pipe.{Saying, with_pulls}
unfoldable pub use Rattle.x25_pipe.specs.Pipe.{event_in, turn, piped, event_turn, saying_line, turns}
unfoldable pub use Rattle.x25_script.specs.Reading.{line_in}
pub use Rattle.x25_script.specs.laws.ReadingLaw.{ReadsOctets}
pub use Rattle.x25_station.specs.laws.TimerLaw.{StationEvent, Asks, Comes, Fires}
pub use Rattle.x25_station.specs.{Config.{Settings, settings_from}, Entry.{StationEntry}, Station.{Station, new_station}}
pub use Rattle.x25_station.specs.{Step.{Did, Step, Outcome, Refused, commands, fires}, declared.config.Cfg.{Cfg}}
pub use Rattle.x25_world.specs.laws.{Claims.{ups_in}, TapOctets.{AreOfFrame}}
