-- The names that many of these proofs cite, passed on from one place.
pub use Rattle.hex.proofs.HexLemmas.{decode_of-ok}
pub use Rattle.std.proofs.Common.{List, None, Some, ℕ, Option, ap, arith, refl, sym, ◌∙◌, ◌∷◌, ◌≡◌, false, true, Bool, [], length, drop, subst, ◌++◌, take, ◌<◌}
pub use Rattle.std.proofs.{Common.{◌==◌, ◌≤◌}, lemmas.Bool.{and_parts}, lemmas.Bool.Decides.{nat_tests}, lemmas.Option.{none-some}}
pub use Rattle.std.specs.{Char.{is_ascii_digit}, List.{list_all}, Prelude.{cond, option_map, codes, decimal, ◌&&◌}, Str.{bytes_eq}}
pub use Rattle.x25_bits.specs.declared.role.{Role.{Role}, Role.TheVariants.{Dce, Dte}}
pub use Rattle.x25_script.specs.Reading.Spelling.{Spells, SpellsCommand, SpellsPart, Writes, address_text, direction_text, end_text, given_text, q_text}
pub use Rattle.x25_script.specs.Reading.{IsNotBehind, d_in, labelled_in, octets_in}
unfoldable pub use Rattle.x25_script.specs.Reading.{parts_of, command_in, line_in, number_in, part_in, small_number_in, with_fields}
pub use Rattle.x25_script.specs.ScriptLine.{PlainCommand, PlainLine, accept, call, clear, connect, disconnect, heal, interrupt, not_ready, probe, pull, ready}
pub use Rattle.x25_script.specs.{ScriptLine.{relink, reset, restart, send, with_given, command, damage, deliver, drain, lose, t1}, declared.given.Given.{Given}}
