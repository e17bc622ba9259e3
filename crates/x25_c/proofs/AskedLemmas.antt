-- A command that is read behind the name of an end is the command without it.
use Rattle.std.{proofs.Common.{Option}, specs.Prelude.{option_and_then}}
use Rattle.x25_bits.specs.declared.role.Role.{Role}
use Rattle.x25_c.{proofs.Names.{List, ℕ, Some, None, Result, Held}, specs.code.Happens.{GivesAnswer, asked_in}}
use Rattle.x25_script.specs.{Reading.{after, command_in, End}, ScriptLine.{PlainCommand, command}}
use Rattle.x25_station.specs.declared.error.StationError.{StationError}

module _ (old new : Held) (r : Option (Result Unit StationError)) (end : Role) where
  by_read : (read : Option PlainCommand)
      → GivesAnswer old new r (asked_in (option_and_then (λ asked. Some (command end asked)) read)) → GivesAnswer old new r read
  by_read None given = given
  by_read (Some asked) given = given

  pub answered : (text : List ℕ) → GivesAnswer old new r (asked_in (after (End end) text)) → GivesAnswer old new r (command_in text)
  answered text given = by_read (command_in text) given
