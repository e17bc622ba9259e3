-- The text of the entries of a transcript (profile).
use Rattle.std.specs.Prelude.{ℕ, ◌==◌, ◌&&◌, Bool, List, [], ◌∷◌, ◌++◌, if◌then◌else◌, Some, None, codes, decimal}
use Rattle.std.specs.List.{flat_map}
use Rattle.x25_bits.specs.declared.role.Role.{Role}
use Rattle.x25_bits.specs.declared.role.Role.TheVariants.{Dte, Dce}
use Rattle.x25_packet.specs.Spelling.{bit}
use Rattle.x25_link.specs.declared.phase.Ending.{Ending}
use Rattle.x25_link.specs.declared.phase.Ending.TheVariants.{ByUa, ByDm, GivenUp}
use Rattle.x25_link.specs.declared.phase.Reason.{Reason}
use Rattle.x25_link.specs.declared.phase.Reason.TheVariants.{Retries, Disc, Dm, FrmrSent, FrmrGot, Reset, Local, Counts}
use Rattle.x25_packet.specs.declared.marks.Marks.{Marks}
use Rattle.x25_circuit.specs.Message.{Message}
use Rattle.x25_circuit.specs.declared.params.Params.{Params}
use Rattle.x25_circuit.specs.Params.{default_params}
use Rattle.x25_circuit.specs.Notice.{PlainNotice, incoming, connected, collided, cleared, clear_done, was_reset}
use Rattle.x25_circuit.specs.Notice.{reset_done, delivered, interrupted, interrupt_done, fault}
use Rattle.x25_circuit.specs.Calling.{Request, Calls, Accepts, Clears, Sends, Interrupts, Resets, SaysReady}
use Rattle.x25_circuit.specs.Calling.{SaysNotReady}
use Rattle.x25_handshakes.specs.laws.Names.{Name}
use Rattle.x25_layer.specs.laws.Transcript.{Said, Asked, Told}
use Rattle.x25_station.specs.Entry.{StationEntry, of_channel, restart_asked, connect_asked, disconnect_asked}
use Rattle.x25_station.specs.Entry.{relink_asked, link_up, disconnected}
use Rattle.x25_station.specs.Entry.{link_down, was_restarted, restart_confirmed, at_fault, came_beside, was_diagnosed}
use Rattle.x25_station.specs.Entry.{was_confirmed}
use Rattle.x25_text.specs.Text.{octets_text}
use Rattle.x25_text.specs.PacketText.{reason_text}

-- ---- on a channel

abbrev pub name_text : Name → List ℕ
name_text name = decimal name.restarts ++ (codes "." ++ decimal name.clears) ++ (codes "." ++ decimal name.resets)

-- a channel
abbrev pub channel_text : ℕ → List ℕ
channel_text channel = codes " ch=" ++ decimal channel

-- a channel, and the name of its stretch
abbrev pub stretch_text : ℕ → Name → List ℕ
stretch_text channel name = channel_text channel ++ (codes " at " ++ name_text name)

-- an address that is a text of digits: `-` where there are none
abbrev pub address_text : List ℕ → List ℕ
address_text [] = codes "-"
address_text (figure ∷ figures) = figure ∷ figures

-- an address that is a list of digits
abbrev pub digits_text : List ℕ → List ℕ
digits_text [] = codes "-"
digits_text (digit ∷ digits) = flat_map decimal (digit ∷ digits)

abbrev pub user_text : List ℕ → List ℕ
user_text user = codes " data=" ++ octets_text user

-- the qualifier, and whether confirmation is asked
abbrev pub marks_text : Marks → List ℕ
marks_text marks = codes " q=" ++ decimal (bit marks.q) ++ (if marks.d then codes " d=1" else [])

abbrev pub message_text : Message → List ℕ
message_text message = marks_text message.marks ++ user_text message.user

abbrev pub are_same : Params → Params → Bool
are_same p q = p.size_called == q.size_called && (p.size_calling == q.size_calling
    && (p.win_called == q.win_called && p.win_calling == q.win_calling))

-- of the called end, then of the calling one
abbrev pub pair_text : ℕ → ℕ → List ℕ
pair_text called calling = decimal called ++ (codes "," ++ decimal calling)

-- the codes of packet sizes, and windows, where one of them isn't the default
abbrev pub params_text : Params → List ℕ
params_text p =
    if are_same p default_params
    then []
    else (codes " size=" ++ pair_text p.size_called p.size_calling)
    ++ (codes " win=" ++ pair_text p.win_called p.win_calling)

-- a cause and a diagnostic that were given, each where it isn't 0
abbrev pub given_number : List ℕ → ℕ → List ℕ
given_number label n = if n == 0 then [] else label ++ decimal n

abbrev pub given_text : ℕ → ℕ → List ℕ
given_text cause diagnostic = given_number (codes " cause=") cause ++ given_number (codes " diag=") diagnostic

-- what its user asked
abbrev pub request_text : ℕ → Name → Request → List ℕ
request_text channel name (Calls called calling user proposal) = codes "call" ++ stretch_text channel name
    ++ (codes " called=" ++ address_text called)
    ++ (codes " calling=" ++ address_text calling) ++ user_text user ++ params_text proposal.params
request_text channel name (Accepts None) = codes "accept" ++ channel_text channel
request_text channel name (Accepts (Some answer)) = codes "accept" ++ channel_text channel ++ params_text answer.params
request_text channel name (Clears cause diagnostic) = codes "clear" ++ channel_text channel
    ++ given_text cause diagnostic
request_text channel name (Sends marks user) = codes "send" ++ stretch_text channel name
    ++ marks_text marks ++ user_text user
request_text channel name (Interrupts user) = codes "int" ++ stretch_text channel name ++ user_text user
request_text channel name (Resets cause diagnostic) = codes "reset" ++ channel_text channel
    ++ given_text cause diagnostic
request_text channel name SaysReady = codes "ready" ++ channel_text channel
request_text channel name SaysNotReady = codes "notready" ++ channel_text channel

-- what its user was told
abbrev pub notice_text : ℕ → Name → PlainNotice → List ℕ
notice_text channel name (incoming request) = codes "incoming" ++ stretch_text channel name
    ++ (codes " called=" ++ digits_text request.called)
    ++ (codes " calling=" ++ digits_text request.calling) ++ user_text request.user ++ params_text request.params
notice_text channel name (connected params) = codes "connected" ++ channel_text channel ++ params_text params
notice_text channel name collided = codes "collided" ++ channel_text channel
notice_text channel name (cleared cause diagnostic) = codes "cleared" ++ channel_text channel
    ++ reason_text cause diagnostic
notice_text channel name clear_done = codes "cleardone" ++ channel_text channel
notice_text channel name (was_reset cause diagnostic) = codes "wasreset" ++ channel_text channel
    ++ reason_text cause diagnostic
notice_text channel name reset_done = codes "resetdone" ++ channel_text channel
notice_text channel name (delivered message) = codes "message" ++ stretch_text channel name ++ message_text message
notice_text channel name (interrupted user) = codes "interrupt" ++ stretch_text channel name ++ user_text user
notice_text channel name interrupt_done = codes "intdone" ++ channel_text channel
notice_text channel name (fault diagnostic) = codes "fault" ++ channel_text channel
    ++ (codes " diag=" ++ decimal diagnostic)

abbrev pub said_text : ℕ → Name → Said → List ℕ
said_text channel name (Asked request) = request_text channel name request
said_text channel name (Told notice) = notice_text channel name notice

-- ---- of the station

-- why the link went down
abbrev pub down_text : Reason → List ℕ
down_text Retries = codes "retries"
down_text Disc = codes "disc"
down_text Dm = codes "dm"
down_text FrmrSent = codes "frmr-sent"
down_text FrmrGot = codes "frmr-got"
down_text Reset = codes "reset"
down_text Local = codes "local"
down_text Counts = codes "counts"

-- how it ended that this end disconnected it
abbrev pub ending_text : Ending → List ℕ
ending_text ByUa = codes "ua"
ending_text ByDm = codes "dm"
ending_text GivenUp = codes "retries"

abbrev pub entry_text : StationEntry → List ℕ
entry_text (of_channel e) = said_text e.channel e.name e.said
entry_text (restart_asked cause diagnostic) = codes "restart" ++ given_text cause diagnostic
entry_text connect_asked = codes "connect"
entry_text disconnect_asked = codes "disconnect"
entry_text relink_asked = codes "relink"
entry_text link_up = codes "linkup"
entry_text (link_down reason) = codes "linkdown " ++ down_text reason
entry_text (disconnected ending) = codes "disconnected " ++ ending_text ending
entry_text (was_restarted cause diagnostic) = codes "restarted" ++ reason_text cause diagnostic
entry_text restart_confirmed = codes "restartdone"
entry_text (at_fault diagnostic) = codes "fault" ++ channel_text 0 ++ (codes " diag=" ++ decimal diagnostic)
entry_text (came_beside channel facilities user) = codes "beside" ++ channel_text channel
    ++ (codes " fac=" ++ octets_text facilities) ++ user_text user
entry_text (was_confirmed channel name count) = codes "confirmed" ++ stretch_text channel name
    ++ (codes " count=" ++ decimal count)
entry_text (was_diagnosed diagnostic) = codes "diagnostic" ++ (codes " diag=" ++ decimal diagnostic)

abbrev pub end_text : Role → List ℕ
end_text Dte = codes "dte "
end_text Dce = codes "dce "

-- the line of an entry at an end
unfoldable pub entry_line : Role → StationEntry → List ℕ
entry_line at entry = end_text at ++ entry_text entry ++ codes "\n"
