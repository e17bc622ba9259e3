-- What characters read as: the line that they spell, or none (profile).
use Rattle.std.specs.Prelude.{ℕ, ◌≡◌, ◌≢◌, ◌++◌, ◌==◌, ◌&&◌, nat_lt, Bool, true, false, List, [], ◌∷◌, length, codes}
use Rattle.std.specs.Prelude.{decimal, drop, take}
use Rattle.std.specs.Prelude.{if◌then◌else◌, Option, Some, None, option_map, option_and_then}
use Rattle.std.specs.Char.{is_ascii_digit}
use Rattle.std.specs.List.{list_all}
use Rattle.std.specs.Str.{bytes_eq}
use Rattle.std.specs.Str.Parse.{digits_value}
use denote.Ref.{Bor}
use Rattle.x25_bits.specs.declared.role.Role.{Role}
use Rattle.x25_bits.specs.declared.role.Role.TheVariants.{Dte, Dce}
use Rattle.x25_circuit.specs.declared.params.Params.{Params}
use Rattle.x25_script.specs.declared.given.Given.{Given}
use Rattle.x25_script.specs.declared.script_line.Command.{Command}
use Rattle.x25_script.specs.HexDigits.{octets_of}
use Rattle.x25_script.specs.ScriptLine.{PlainCommand, call, accept, clear, send, interrupt, reset, ready, not_ready}
use Rattle.x25_script.specs.ScriptLine.{restart, pull, connect, disconnect, probe, relink, PlainLine, command, t1}
use Rattle.x25_script.specs.ScriptLine.{deliver, lose}
use Rattle.x25_script.specs.ScriptLine.{damage, drain, heal, plain_command, with_given}
pub mod Spelling

-- the first word of a line
pub data Keyword : Type 0 where
  End : Role → Keyword
  T1 : Keyword
  Deliver : Keyword
  Lose : Keyword
  Damage : Keyword
  Drain : Keyword

-- the word of a command that has fields
pub data Verb : Type 0 where
  Call : Verb
  Accept : Verb
  Clear : Verb
  Send : Verb
  Interrupt : Verb
  Reset : Verb
  Restart : Verb
  Ready : Verb
  NotReady : Verb
  With : Verb

-- a step of reading, where the steps before it read something
infixl 10 ◌>>=◌
abbrev pub ◌>>=◌ : {A B : Type 0} → Option A → (A → Option B) → Option B
read >>= f = option_and_then f read

-- a character in front of the first part
abbrev pub onto_first : ℕ → List ℕ × List ℕ → List ℕ × List ℕ
onto_first character parts = (character ∷ parts.0, parts.1)

-- what stands before the first blank, and what follows it
unfoldable pub parts_of : List ℕ → Option (List ℕ × List ℕ)
parts_of [] = None
parts_of (character ∷ text) = if character == 32 then Some ([], text)
    else option_map (onto_first character) (parts_of text)

abbrev pub end_in : List ℕ → Option Role
end_in text = if bytes_eq text (codes "dte") then Some Dte else if bytes_eq text (codes "dce") then Some Dce else None

-- the end that a direction leads away from
abbrev pub from_in : List ℕ → Option Role
from_in text = if bytes_eq text (codes ">") then Some Dte else if bytes_eq text (codes "<") then Some Dce else None

abbrev pub q_in : List ℕ → Option Bool
q_in text = if bytes_eq text (codes "0") then Some false else if bytes_eq text (codes "1") then Some true else None

-- the number of 16 bits that is written so
unfoldable pub number_in : List ℕ → Option ℕ
number_in text = let n = digits_value 10 text in if nat_lt n 65536 && bytes_eq (decimal n) text then Some n else None

-- the number of 8 bits that is written so
unfoldable pub small_number_in : List ℕ → Option ℕ
small_number_in text = do
  n ← number_in text
  if nat_lt n 256 then Some n else None

-- a text of digits `0` to `9`
abbrev pub digits_in : List ℕ → Option (List ℕ)
digits_in text = if list_all is_ascii_digit text then Some text else None

-- the digits of an address, one at least or `-`
abbrev pub address_in : List ℕ → Option (List ℕ)
address_in text = if bytes_eq text (codes "-") then Some [] else if length text == 0 then None else digits_in text

-- octets, one pair of digits at least or `-`
abbrev pub octets_in : List ℕ → Option (List ℕ)
octets_in text = if bytes_eq text (codes "-") then Some [] else if length text == 0 then None else octets_of text

abbrev pub verb_in : List ℕ → Option Verb
verb_in text =
    if bytes_eq text (codes "call") then Some Call
    else if bytes_eq text (codes "accept") then Some Accept
    else if bytes_eq text (codes "clear") then Some Clear
    else if bytes_eq text (codes "send") then Some Send
    else if bytes_eq text (codes "int") then Some Interrupt
    else if bytes_eq text (codes "reset") then Some Reset
    else if bytes_eq text (codes "restart") then Some Restart
    else if bytes_eq text (codes "ready") then Some Ready
    else if bytes_eq text (codes "notready") then Some NotReady
    else if bytes_eq text (codes "with") then Some With
    else None

abbrev pub keyword_in : List ℕ → Option Keyword
keyword_in text =
    if bytes_eq text (codes "t1") then Some T1
    else if bytes_eq text (codes "deliver") then Some Deliver
    else if bytes_eq text (codes "lose") then Some Lose
    else if bytes_eq text (codes "damage") then Some Damage
    else if bytes_eq text (codes "drain") then Some Drain
    else option_map (λ end. End end) (end_in text)

-- four numbers
unfoldable pub params_in : List ℕ → Option Params
params_in text = do
  first ← parts_of text
  second ← parts_of first.1
  third ← parts_of second.1
  size_called ← small_number_in first.0
  size_calling ← small_number_in second.0
  win_called ← small_number_in third.0
  win_calling ← small_number_in third.1
  Some (record {
    size_called = size_called;
    size_calling = size_calling;
    win_called = win_called;
    win_calling = win_calling;
  })

-- of a text and its parts at the first blank
abbrev pub with_params_of : List ℕ → Option (List ℕ × List ℕ) → Option (List ℕ × Option Params)
with_params_of text None = Some (text, None)
with_params_of text (Some parts) = do
  params ← params_in parts.1
  Some (parts.0, Some params)

-- the last field that has to stand, and the four numbers where a blank follows it
unfoldable pub with_params_in : List ℕ → Option (List ℕ × Option Params)
with_params_in text = with_params_of text (parts_of text)

-- the number of 8 bits behind this label
abbrev pub labelled_in : List ℕ → List ℕ → Option ℕ
labelled_in label text = if bytes_eq label (take (length label) text) then small_number_in (drop (length label) text)
    else None

abbrev pub nothing_given : Given
nothing_given = record { cause = None; diagnostic = None }

-- a cause, or else a diagnostic
abbrev pub one_given : Option ℕ → Option ℕ → Option Given
one_given (Some cause) diagnostic = Some (record { cause = Some cause; diagnostic = None })
one_given None (Some diagnostic) = Some (record { cause = None; diagnostic = Some diagnostic })
one_given None None = None

-- of a text and its parts at the first blank: one of these, or first the one and then the other
abbrev pub given_of : List ℕ → Option (List ℕ × List ℕ) → Option Given
given_of text None = one_given (labelled_in (codes "cause=") text) (labelled_in (codes "diag=") text)
given_of text (Some parts) = do
  cause ← labelled_in (codes "cause=") parts.0
  diagnostic ← labelled_in (codes "diag=") parts.1
  Some (record { cause = Some cause; diagnostic = Some diagnostic })

abbrev pub given_in : List ℕ → Option Given
given_in text = given_of text (parts_of text)

-- of a text and its parts at the first blank
abbrev pub with_given_of : List ℕ → Option (List ℕ × List ℕ) → Option (List ℕ × Given)
with_given_of text None = Some (text, nothing_given)
with_given_of text (Some parts) = do
  given ← given_in parts.1
  Some (parts.0, given)

-- the last field that has to stand, and what is given where a blank follows it
abbrev pub with_given_in : List ℕ → Option (List ℕ × Given)
with_given_in text = with_given_of text (parts_of text)

unfoldable pub call_in : List ℕ → Option PlainCommand
call_in text = do
  first ← parts_of text
  second ← parts_of first.1
  last ← with_params_in second.1
  called ← address_in first.0
  calling ← address_in second.0
  user ← octets_in last.0
  Some (call called calling user last.1)

unfoldable pub accept_in : List ℕ → Option PlainCommand
accept_in text = do
  last ← with_params_in text
  channel ← number_in last.0
  Some (accept channel last.1)

-- whether D is set, where its word stands in front, and what follows
abbrev pub d_in : List ℕ → Bool × List ℕ
d_in text = if bytes_eq (codes "d ") (take 2 text) then (true, drop 2 text) else (false, text)

unfoldable pub send_in : List ℕ → Option PlainCommand
send_in text = do
  first ← parts_of text
  second ← parts_of first.1
  channel ← number_in first.0
  q ← q_in second.0
  user ← octets_in (d_in second.1).1
  Some (send channel q (d_in second.1).0 user)

unfoldable pub interrupt_in : List ℕ → Option PlainCommand
interrupt_in text = do
  parts ← parts_of text
  channel ← number_in parts.0
  user ← octets_in parts.1
  Some (interrupt channel user)

-- a command whose one field is its channel
abbrev pub on_channel : (ℕ → PlainCommand) → List ℕ → Option PlainCommand
on_channel asked text = do
  channel ← number_in text
  Some (asked channel)

-- a command of a channel, with what is given
abbrev pub giving_on : (ℕ → Given → PlainCommand) → List ℕ → Option PlainCommand
giving_on asked text = do
  last ← with_given_in text
  channel ← number_in last.0
  Some (asked channel last.1)

-- a restart with what is given
abbrev pub restart_in : List ℕ → Option PlainCommand
restart_in text = do
  given ← given_in text
  Some (restart given)

-- what is asked of a call
abbrev pub part_fields : Verb → List ℕ → Option PlainCommand
part_fields Call text = call_in text
part_fields Accept text = accept_in text
part_fields Clear text = giving_on clear text
part_fields verb text = None

unfoldable pub part_in : List ℕ → Option PlainCommand
part_in text = do
  parts ← parts_of text
  word ← verb_in parts.0
  part_fields word parts.1

-- facilities, user data, and what is asked of a call
unfoldable pub with_in : List ℕ → Option PlainCommand
with_in text = do
  first ← parts_of text
  second ← parts_of first.1
  facilities ← octets_in first.0
  user ← octets_in second.0
  option_map (with_given facilities user (d_in second.1).0) (part_in (d_in second.1).1)

unfoldable pub with_fields : Verb → List ℕ → Option PlainCommand
with_fields Call text = call_in text
with_fields Accept text = accept_in text
with_fields Clear text = giving_on clear text
with_fields Send text = send_in text
with_fields Interrupt text = interrupt_in text
with_fields Reset text = giving_on reset text
with_fields Restart text = restart_in text
with_fields Ready text = on_channel ready text
with_fields NotReady text = on_channel not_ready text
with_fields With text = with_in text

abbrev pub bare_command_in : List ℕ → Option PlainCommand
bare_command_in text = if bytes_eq text (codes "restart") then Some (restart nothing_given)
    else if bytes_eq text (codes "pull") then Some pull
    else if bytes_eq text (codes "connect") then Some connect
    else if bytes_eq text (codes "disconnect") then Some disconnect
    else if bytes_eq text (codes "probe") then Some probe
    else if bytes_eq text (codes "relink") then Some relink else None

-- of a text and its parts at the first blank
abbrev pub command_of : List ℕ → Option (List ℕ × List ℕ) → Option PlainCommand
command_of text None = bare_command_in text
command_of text (Some parts) = do
  word ← verb_in parts.0
  with_fields word parts.1

unfoldable pub command_in : List ℕ → Option PlainCommand
command_in text = command_of text (parts_of text)

unfoldable pub lose_in : List ℕ → Option PlainLine
lose_in text = do
  parts ← parts_of text
  from ← from_in parts.0
  place ← number_in parts.1
  Some (lose from place)

unfoldable pub damage_in : List ℕ → Option PlainLine
damage_in text = do
  first ← parts_of text
  second ← parts_of first.1
  from ← from_in first.0
  place ← number_in second.0
  octets ← octets_in second.1
  Some (damage from place octets)

unfoldable pub drain_in : List ℕ → Option PlainLine
drain_in text = do
  count ← number_in text
  if count == 0 then None else Some (drain count)

-- what follows the first word
abbrev pub after : Keyword → List ℕ → Option PlainLine
after (End end) text = do
  asked ← command_in text
  Some (command end asked)
after T1 text = do
  end ← end_in text
  Some (t1 end)
after Deliver text = do
  from ← from_in text
  Some (deliver from)
after Lose text = lose_in text
after Damage text = damage_in text
after Drain text = drain_in text

-- a line of one word
abbrev pub bare_line_in : List ℕ → Option PlainLine
bare_line_in text = if bytes_eq text (codes "heal") then Some heal else None

-- of a text and its parts at the first blank
abbrev pub line_of : List ℕ → Option (List ℕ × List ℕ) → Option PlainLine
line_of text None = bare_line_in text
line_of text (Some parts) = do
  word ← keyword_in parts.0
  after word parts.1

-- the line that the characters spell
unfoldable pub line_in : List ℕ → Option PlainLine
line_in text = line_of text (parts_of text)

-- an answer is what the characters read as
abbrev pub GivesParts : Option (Bor (List ℕ) × Bor (List ℕ)) → Option (List ℕ × List ℕ) → Type 0
GivesParts None read = read ≡ None
GivesParts (Some parts) read = read ≡ Some (parts.0.now, parts.1.now)

abbrev pub GivesText : Option (Bor (List ℕ)) → Option (List ℕ) → Type 0
GivesText None read = read ≡ None
GivesText (Some text) read = read ≡ Some text.now

abbrev pub GivesWithParams : Option (Bor (List ℕ) × Option Params) → Option (List ℕ × Option Params) → Type 0
GivesWithParams None read = read ≡ None
GivesWithParams (Some last) read = read ≡ Some (last.0.now, last.1)

abbrev pub GivesWithGiven : Option (Bor (List ℕ) × Given) → Option (List ℕ × Given) → Type 0
GivesWithGiven None read = read ≡ None
GivesWithGiven (Some last) read = read ≡ Some (last.0.now, last.1)

abbrev pub GivesCommand : Option Command → Option PlainCommand → Type 0
GivesCommand None read = read ≡ None
GivesCommand (Some asked) read = read ≡ Some (plain_command asked)

-- a text doesn't begin with this word
abbrev pub IsNotBehind : List ℕ → List ℕ → Type 0
IsNotBehind word text = (rest : List ℕ) → text ≢ word ++ rest
