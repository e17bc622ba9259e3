-- What C is told of an entry of the transcript (profile): the number of its kind, and what that kind has, else 0.
use Rattle.std.specs.Prelude.{ℕ, false, List, [], length, map, ◌+◌, ◌%◌, Some, None}
use Rattle.x25_link.specs.declared.phase.Ending.{Ending}
use Rattle.x25_link.specs.declared.phase.Ending.TheVariants.{ByUa, ByDm, GivenUp}
use Rattle.x25_link.specs.declared.phase.Reason.{Reason}
use Rattle.x25_link.specs.declared.phase.Reason.TheVariants.{Retries, Disc, Dm, FrmrSent, FrmrGot, Reset, Local, Counts}
use Rattle.x25_circuit.specs.Notice.{PlainNotice, incoming, connected, collided, cleared, clear_done, was_reset}
use Rattle.x25_circuit.specs.Notice.{reset_done, delivered, interrupted, interrupt_done, fault}
use Rattle.x25_circuit.specs.Calling.{Request, Calls, Accepts, Clears, Sends, Interrupts, Resets, SaysReady}
use Rattle.x25_circuit.specs.Calling.{SaysNotReady}
use Rattle.x25_handshakes.specs.laws.Names.{Name}
use Rattle.x25_layer.specs.laws.Transcript.{Said, Asked, Told}
use Rattle.x25_station.specs.Entry.{StationEntry, of_channel, restart_asked, connect_asked, disconnect_asked}
use Rattle.x25_station.specs.Entry.{relink_asked, link_up}
use Rattle.x25_station.specs.Entry.{link_down, was_restarted, restart_confirmed, at_fault, came_beside, was_diagnosed}
use Rattle.x25_station.specs.Entry.{was_confirmed, disconnected}
use Rattle.x25_c.specs.declared.event.Event.{Event}
use Rattle.x25_c.specs.Sizes.{no_sizes, sizes_told}
use Rattle.x25_c.specs.StretchName.{no_name, name_told}

-- a kind that has nothing
abbrev pub kind_alone : ℕ → Event
kind_alone kind = record {
  kind = kind;
  channel = 0;
  q = false;
  d = false;
  cause = 0;
  diagnostic = 0;
  reason = 0;
  sizes = no_sizes;
  timer = 0;
  stretch = no_name;
  count = 0;
  confirmed = 0;
  later = 0;
  more = 0;
}

-- a kind on a channel
abbrev pub on : ℕ → ℕ → Event
on kind channel = record (kind_alone kind) { channel = channel }

-- a kind on a channel, under the name of its stretch
abbrev pub under : ℕ → ℕ → Name → Event
under kind channel name = record (kind_alone kind) { channel = channel; stretch = name_told name }

-- with a cause and a diagnostic
abbrev pub for_reason : ℕ → ℕ → Event → Event
for_reason cause diagnostic event = record event { cause = cause; diagnostic = diagnostic }

-- why the link went down
abbrev pub reason_number : Reason → ℕ
reason_number Retries = 1
reason_number Disc = 2
reason_number Dm = 3
reason_number FrmrSent = 4
reason_number FrmrGot = 5
reason_number Reset = 6
reason_number Local = 7
reason_number Counts = 8

-- how it ended that this end disconnected it
abbrev pub ending_number : Ending → ℕ
ending_number ByUa = 1
ending_number ByDm = 2
ending_number GivenUp = 3

-- what the user of a channel asked
abbrev pub asked_event : ℕ → Name → Request → Event
asked_event channel name (Calls called calling user proposal) =
    record (under 23 channel name) { sizes = sizes_told proposal.params; count = length user }
asked_event channel name (Accepts None) = on 24 channel
asked_event channel name (Accepts (Some answer)) = record (on 24 channel) { sizes = sizes_told answer.params }
asked_event channel name (Clears cause diagnostic) = for_reason cause diagnostic (on 25 channel)
asked_event channel name (Sends marks user) =
    record (under 26 channel name) { q = marks.q; d = marks.d; count = length user }
asked_event channel name (Interrupts user) = record (under 27 channel name) { count = length user }
asked_event channel name (Resets cause diagnostic) = for_reason cause diagnostic (on 28 channel)
asked_event channel name SaysReady = on 29 channel
asked_event channel name SaysNotReady = on 30 channel

-- what its user was told
abbrev pub told_event : ℕ → Name → PlainNotice → Event
told_event channel name (incoming request) =
    record (under 10 channel name) { sizes = sizes_told request.params; count = length request.user }
told_event channel name (connected params) = record (on 11 channel) { sizes = sizes_told params }
told_event channel name collided = on 12 channel
told_event channel name (cleared cause diagnostic) = for_reason cause diagnostic (on 13 channel)
told_event channel name clear_done = on 14 channel
told_event channel name (was_reset cause diagnostic) = for_reason cause diagnostic (on 15 channel)
told_event channel name reset_done = on 16 channel
told_event channel name (delivered message) =
    record (under 17 channel name) { q = message.marks.q; d = message.marks.d; count = length message.user }
told_event channel name (interrupted user) = record (under 18 channel name) { count = length user }
told_event channel name interrupt_done = on 19 channel
told_event channel name (fault diagnostic) = record (on 7 channel) { diagnostic = diagnostic }

abbrev pub said_event : ℕ → Name → Said → Event
said_event channel name (Asked request) = asked_event channel name request
said_event channel name (Told notice) = told_event channel name notice

abbrev pub entry_event : StationEntry → Event
entry_event (of_channel e) = said_event e.channel e.name e.said
entry_event (restart_asked cause diagnostic) = for_reason cause diagnostic (kind_alone 22)
entry_event connect_asked = kind_alone 20
entry_event disconnect_asked = kind_alone 21
entry_event relink_asked = kind_alone 31
entry_event link_up = kind_alone 3
entry_event (link_down reason) = record (kind_alone 4) { reason = reason_number reason }
entry_event (disconnected ending) = record (kind_alone 34) { reason = ending_number ending }
entry_event (was_restarted cause diagnostic) = for_reason cause diagnostic (kind_alone 5)
entry_event restart_confirmed = kind_alone 6
entry_event (at_fault diagnostic) = record (kind_alone 7) { diagnostic = diagnostic }
entry_event (came_beside channel facilities user) = record (on 8 channel) { count = length user }
entry_event (was_confirmed channel name count) = record (under 33 channel name) { confirmed = count }
entry_event (was_diagnosed diagnostic) = record (kind_alone 9) { diagnostic = diagnostic }

-- ---- its octets

-- of a digit the character that writes it
abbrev pub figure : ℕ → ℕ
figure digit = (48 + digit) % 256

-- user data
abbrev pub asked_user : Request → List ℕ
asked_user (Calls called calling user proposal) = user
asked_user (Sends marks user) = user
asked_user (Interrupts user) = user
asked_user _ = []

abbrev pub told_user : PlainNotice → List ℕ
told_user (incoming request) = request.user
told_user (delivered message) = message.user
told_user (interrupted user) = user
told_user _ = []

abbrev pub said_user : Said → List ℕ
said_user (Asked request) = asked_user request
said_user (Told notice) = told_user notice

abbrev pub entry_user : StationEntry → List ℕ
entry_user (of_channel e) = said_user e.said
entry_user (came_beside channel facilities user) = user
entry_user _ = []

-- the facility field
abbrev pub entry_facilities : StationEntry → List ℕ
entry_facilities (came_beside channel facilities user) = facilities
entry_facilities _ = []

-- the address that is called, in figures
abbrev pub said_called : Said → List ℕ
said_called (Asked (Calls called calling user proposal)) = called
said_called (Told (incoming request)) = map figure request.called
said_called _ = []

abbrev pub entry_called : StationEntry → List ℕ
entry_called (of_channel e) = said_called e.said
entry_called _ = []

-- the address that calls, in figures
abbrev pub said_calling : Said → List ℕ
said_calling (Asked (Calls called calling user proposal)) = calling
said_calling (Told (incoming request)) = map figure request.calling
said_calling _ = []

abbrev pub entry_calling : StationEntry → List ℕ
entry_calling (of_channel e) = said_calling e.said
entry_calling _ = []
