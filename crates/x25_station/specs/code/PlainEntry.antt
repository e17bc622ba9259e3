-- Which entry of the definition an entry of the code is.
use Rattle.std.specs.Prelude.{ℕ, List, [], Option, Some, None}
use Rattle.x25_circuit.specs.Params.{in_brief}
use Rattle.x25_circuit.specs.Notice.{PlainNotice, incoming, connected, collided, cleared, clear_done, was_reset}
use Rattle.x25_circuit.specs.Notice.{reset_done, delivered, interrupted, interrupt_done, fault}
use Rattle.x25_circuit.specs.Calling.{Request, Calls, Accepts, Clears, Sends, Interrupts, Resets, SaysReady}
use Rattle.x25_circuit.specs.Calling.{SaysNotReady}
use Rattle.x25_handshakes.specs.laws.Names.{Name}
use Rattle.x25_layer.specs.declared.stretch.Stretch.{Stretch}
use Rattle.x25_layer.specs.laws.Transcript as said
use Rattle.x25_station.specs.declared.entry.Entry.{Entry}
use Rattle.x25_station.specs.declared.entry.Entry.TheVariants as code
use Rattle.x25_station.specs.declared.entry.Asked.{Asked}
use Rattle.x25_station.specs.declared.entry.Asked.TheVariants as asked
use Rattle.x25_station.specs.declared.entry.Told.{Told}
use Rattle.x25_station.specs.declared.entry.Told.TheVariants as told
use Rattle.x25_station.specs.declared.lent.Lent.{Lent}
use Rattle.x25_station.specs.Entry.{StationEntry, of_channel, restart_asked, connect_asked, disconnect_asked}
use Rattle.x25_station.specs.Entry.{relink_asked, link_up}
use Rattle.x25_station.specs.Entry.{link_down, was_restarted, restart_confirmed, at_fault, came_beside, was_diagnosed}
use Rattle.x25_station.specs.Entry.{was_confirmed, disconnected}

abbrev pub plain_name : Stretch → Name
plain_name s = record { restarts = s.restarts; clears = s.clears; resets = s.resets }

abbrev pub plain_asked : Lent → Asked → Request
plain_asked lent (asked.Call params) = Calls lent.called lent.calling lent.user (in_brief params)
plain_asked lent (asked.Accept params) = Accepts (Some (in_brief params))
plain_asked lent (asked.Clear cause diagnostic) = Clears cause diagnostic
plain_asked lent (asked.Send marks) = Sends marks lent.message
plain_asked lent asked.Interrupt = Interrupts lent.user
plain_asked lent (asked.Reset cause diagnostic) = Resets cause diagnostic
plain_asked lent asked.Ready = SaysReady
plain_asked lent asked.NotReady = SaysNotReady

abbrev pub plain_told : Lent → Told → PlainNotice
plain_told lent (told.Incoming params) = incoming
    (record { called = lent.called; calling = lent.calling; user = lent.user; params = params })
plain_told lent (told.Connected params) = connected params
plain_told lent told.Collided = collided
plain_told lent (told.Cleared cause diagnostic) = cleared cause diagnostic
plain_told lent told.ClearDone = clear_done
plain_told lent (told.WasReset cause diagnostic) = was_reset cause diagnostic
plain_told lent told.ResetDone = reset_done
plain_told lent (told.Delivered marks) = delivered (record { marks = marks; user = lent.message })
plain_told lent told.Interrupted = interrupted lent.user
plain_told lent told.InterruptDone = interrupt_done
plain_told lent (told.Fault diagnostic) = fault diagnostic

-- with what its step lends
abbrev pub plain_entry : Lent → Entry → StationEntry
plain_entry lent (code.Asked channel name what) = of_channel
    (record { channel = channel; name = plain_name name; said = said.Asked (plain_asked lent what) })
plain_entry lent (code.Told channel name what) = of_channel
    (record { channel = channel; name = plain_name name; said = said.Told (plain_told lent what) })
plain_entry lent (code.RestartAsked cause diagnostic) = restart_asked cause diagnostic
plain_entry lent code.ConnectAsked = connect_asked
plain_entry lent code.DisconnectAsked = disconnect_asked
plain_entry lent code.RelinkAsked = relink_asked
plain_entry lent code.LinkUp = link_up
plain_entry lent (code.LinkDown reason) = link_down reason
plain_entry lent (code.Disconnected ending) = disconnected ending
plain_entry lent (code.WasRestarted cause diagnostic) = was_restarted cause diagnostic
plain_entry lent code.RestartDone = restart_confirmed
plain_entry lent (code.Fault diagnostic) = at_fault diagnostic
plain_entry lent (code.Beside channel) = came_beside channel lent.facilities lent.beside
plain_entry lent (code.Confirmed channel name count) = was_confirmed channel (plain_name name) count
plain_entry lent (code.Diagnosed diagnostic) = was_diagnosed diagnostic
