-- What a line of a user hands down is octets.
use Rattle.x25_joined.proofs.Names.{◌≡◌, ℕ, nat_le, Bool, true, false, List, length, Option, Some, None, refl, arith, ◌<◌, Role, Dte, Dce, StationEvent, Asks}
use Rattle.x25_joined.proofs.Names.{Fires, line_in, ReadsOctets, event_in}
use Rattle.std.{proofs.Common.{cond}, specs.Option.{unwrap_or}, specs.Prelude.{option_and_then}}
use Rattle.x25_console.specs.Commands.{command_asked, part_asked}
use Rattle.x25_decode.specs.Decoding.{sent_in}
use Rattle.x25_io.specs.HeldLine.{most_line}
use Rattle.x25_pipe.specs.Pipe.{is_same, script_event, read_event}
use Rattle.x25_script.specs.ScriptLine.{PlainCommand, call, clear, send, interrupt, reset, restart, with_given, PlainLine, command, t1, is_taken, taken}
use Rattle.x25_script.specs.laws.ReadingLaw.{IsOctet, PartInOctets, AsksInOctets, IsInOctets}
use Rattle.x25_station.specs.laws.ReadLaw.{RequestsOctets}
use Rattle.x25_world.specs.laws.Claims.{CommandsOctets}

-- a command hands down octets
abbrev pub AsksOctets : Option StationEvent → Type 0
AsksOctets (Some (Asks asked)) = CommandsOctets asked
AsksOctets event = Unit {0}

given : (o : Option ℕ) → IsOctet o → unwrap_or o 0 < 256
given None h = omega arith
given (Some n) h = h

-- of what is asked of a call
part_handed : (asked : PlainCommand) → PartInOctets asked → RequestsOctets (part_asked asked)
part_handed (call called calling user None) h = h
part_handed (call called calling user (Some four)) h = h
part_handed (clear channel g) h = (given g.cause h.0, given g.diagnostic h.1)
part_handed asked h = tt

handed : (asked : PlainCommand) → AsksInOctets asked → CommandsOctets (command_asked asked)
handed (call called calling user None) h = h
handed (call called calling user (Some four)) h = h
handed (clear channel g) h = (given g.cause h.0, given g.diagnostic h.1)
handed (with_given facilities user d asked) h = ((h.0, h.1), part_handed asked h.2)
handed (send channel q d user) h = h
handed (interrupt channel user) h = h
handed (reset channel g) h = (given g.cause h.0, given g.diagnostic h.1)
handed (restart g) h = (given g.cause h.0, given g.diagnostic h.1)
handed asked h = tt

only_octets : (b : Bool) (event : StationEvent) → AsksOctets (Some event) → AsksOctets (cond b (Some event) None)
only_octets true event h = h
only_octets false event h = tt

of_line : (end : Role) (line : PlainLine) → IsInOctets line → AsksOctets (script_event end line)
of_line end (command at asked) h = only_octets (is_same end at) (Asks (command_asked asked)) (handed asked h)
of_line end (t1 at) h = only_octets (is_same end at) Fires tt
of_line end line h = tt

abbrev InOctets : Option PlainLine → Type 0
InOctets None = Unit {0}
InOctets (Some line) = IsInOctets line

read_octets : ReadsOctets → (text : List ℕ) (read : Option PlainLine) → line_in text ≡ read → InOctets read
read_octets reads text None e = tt
read_octets reads text (Some line) e = reads line text e

some_octets : (b : Bool) (line : PlainLine) → IsInOctets line → InOctets (cond b (Some line) None)
some_octets true line h = h
some_octets false line h = tt

taken_octets : (wide : Bool) (read : Option PlainLine) → InOctets read → InOctets (taken wide read)
taken_octets wide None h = tt
taken_octets wide (Some (command end asked)) h = some_octets (is_taken wide asked) (command end asked) h
taken_octets wide (Some other) h = h

of_read : (end : Role) (read : Option PlainLine) → InOctets read → AsksOctets (option_and_then (script_event end) read)
of_read end None h = tt
of_read end (Some line) h = of_line end line h

of_sent : ReadsOctets → (wide : Bool) (end : Role) (text : List ℕ) (sent : Option (Role × List ℕ)) → AsksOctets (read_event wide end text sent)
of_sent reads wide end text None = of_read end (taken wide (line_in text)) (taken_octets wide (line_in text) (read_octets reads text (line_in text) refl))
of_sent reads wide Dte text (Some (Dte, octets)) = tt
of_sent reads wide Dte text (Some (Dce, octets)) = tt
of_sent reads wide Dce text (Some (Dte, octets)) = tt
of_sent reads wide Dce text (Some (Dce, octets)) = tt

of_short : (b : Bool) (event : Option StationEvent) → AsksOctets event → AsksOctets (cond b event None)
of_short true event h = h
of_short false event h = tt

-- so does each line that a program reads
pub asks_octets : ReadsOctets → (wide : Bool) (end : Role) (line : List ℕ) → AsksOctets (event_in wide end line)
unfolding event_in
asks_octets reads wide end line = of_short (nat_le (length line) most_line) (read_event wide end line (sent_in line))
    (of_sent reads wide end line (sent_in line))
