-- What characters read as, and the grammar of a script's lines.
use Rattle.std.specs.Prelude.{◌≡◌, ◌↔◌, ℕ, ◌<◌, List, Option, Some, None}
use Rattle.x25_script.specs.HexDigits.{AreOctets}
use Rattle.x25_script.specs.declared.given.Given.{Given}
use Rattle.x25_script.specs.ScriptLine.{PlainCommand, call, clear, send, interrupt, reset, restart, PlainLine, command}
use Rattle.x25_script.specs.ScriptLine.{damage, with_given}
use Rattle.x25_script.specs.Reading.Spelling.{Spells}
use Rattle.x25_script.specs.Reading.{line_in}

-- characters are read as a line exactly where they spell it
abbrev pub ReadsWhatIsSpelled : Type 0
ReadsWhatIsSpelled = (v : PlainLine) (text : List ℕ) → (line_in text ≡ Some v) ↔ Spells v text

-- a number of a line, where it has it
abbrev pub IsOctet : Option ℕ → Type 0
IsOctet None = Unit {0}
IsOctet (Some n) = n < 256

abbrev pub AreGivenOctets : Given → Type 0
AreGivenOctets given = IsOctet given.cause × IsOctet given.diagnostic

-- the user data of what is asked of a call, or its cause and diagnostic
abbrev pub PartInOctets : PlainCommand → Type 0
PartInOctets (call called calling user params) = AreOctets user
PartInOctets (clear channel given) = AreGivenOctets given
PartInOctets asked = Unit {0}

-- the user data of a command, and what it gives
abbrev pub AsksInOctets : PlainCommand → Type 0
AsksInOctets (with_given facilities user d asked) = AreOctets facilities × AreOctets user × PartInOctets asked
AsksInOctets (call called calling user params) = AreOctets user
AsksInOctets (clear channel given) = AreGivenOctets given
AsksInOctets (send channel q d user) = AreOctets user
AsksInOctets (interrupt channel user) = AreOctets user
AsksInOctets (reset channel given) = AreGivenOctets given
AsksInOctets (restart given) = AreGivenOctets given
AsksInOctets asked = Unit {0}

-- and what comes in the place of a frame
abbrev pub IsInOctets : PlainLine → Type 0
IsInOctets (command end asked) = AsksInOctets asked
IsInOctets (damage from place octets) = AreOctets octets
IsInOctets line = Unit {0}

-- what is read from characters carries octets
abbrev pub ReadsOctets : Type 0
ReadsOctets = (v : PlainLine) (text : List ℕ) → line_in text ≡ Some v → IsInOctets v
