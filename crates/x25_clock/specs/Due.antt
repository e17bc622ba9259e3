-- What is due: the command that asks a station for it, what is asked where that is refused for want of room, and the
-- timer that has passed.
use Rattle.std.specs.Prelude.{ℕ, Bool, true, false, ◌&&◌, if◌then◌else◌, Option, Some, None}
use Rattle.x25_bits.specs.declared.role.Role.{Role}
use Rattle.x25_bits.specs.declared.role.Role.TheVariants.{Dte, Dce}
use Rattle.x25_circuit.specs.declared.awaits.Awaits.{Awaits}
use Rattle.x25_circuit.specs.declared.awaits.Awaits.TheVariants.{ResetConfirmation}
use Rattle.x25_circuit.specs.Calling.{Clears, Resets}
use Rattle.x25_layer.specs.Calls as layer
use Rattle.x25_layer.specs.declared.error.LayerError.TheVariants as layer_error
use Rattle.x25_station.specs.declared.error.StationError.{StationError}
use Rattle.x25_station.specs.declared.error.StationError.TheVariants as error
use Rattle.x25_station.specs.Command.{Command, Requests, Probes, Relinks}
use Rattle.x25_station.specs.Config.{Settings}
use Rattle.x25_station.specs.Station.{Station}
use Rattle.x25_station.specs.Step.{Outcome, Did, Refused}
use Rattle.x25_station.specs.laws.TimerLaw.{StationEvent, Asks, Fires, outcome}
use Rattle.x25_clock.specs.declared.due.Due.{Due}
use Rattle.x25_clock.specs.declared.due.Due.TheVariants as due
pub mod Asking

-- T1 fires, and is no command. A reset for T25 has a diagnostic of its own (profile).
abbrev pub command_for : Due → Option Command
command_for due.T1 = None
command_for due.Probe = Some Probes
command_for (due.Reset h) = Some (Requests (layer.Asks h (Resets 0 0)))
command_for (due.ResetUnacknowledged h) = Some (Requests (layer.Asks h (Resets 0 146)))
command_for (due.Clear h) = Some (Requests (layer.Asks h (Clears 0 0)))
command_for (due.Restart h) = Some (Requests (layer.Restarts 0 0))
command_for due.Relink = Some Relinks

-- what happens to the station as it is asked
abbrev pub by_command : Option Command → StationEvent
by_command None = Fires
by_command (Some command) = Asks command

abbrev pub event_for : Due → StationEvent
event_for due = by_command (command_for due)

-- ---- A reset, a clear and a restart are packets. Where 256 wait already the link refuses one (10), and the clear and
-- the restart by which one that isn't confirmed ends would be refused too: so the link is set up anew at once, which
-- needs no packet.

abbrev pub is_packet : Due → Bool
is_packet due.T1 = false
is_packet due.Probe = false
is_packet (due.Reset h) = true
is_packet (due.ResetUnacknowledged h) = true
is_packet (due.Clear h) = true
is_packet (due.Restart h) = true
is_packet due.Relink = false

abbrev pub is_full : StationError → Bool
is_full (error.Layer layer_error.QueueFull) = true
is_full e = false

abbrev pub lacks_room : Outcome → Bool
lacks_room (Did step) = false
lacks_room (Refused e) = is_full e

-- what is asked of a station for it
abbrev pub asked_of : Settings → Station → Due → Due
asked_of c s asked = if is_packet asked && lacks_room (outcome c s (event_for asked)) then due.Relink else asked

-- the channel that it is of, 0 where it is of none
abbrev pub channel_for : Due → ℕ
channel_for due.T1 = 0
channel_for due.Probe = 0
channel_for due.Relink = 0
channel_for (due.Reset h) = h
channel_for (due.ResetUnacknowledged h) = h
channel_for (due.Clear h) = h
channel_for (due.Restart h) = h

-- the number in the name of the timer that has passed, which each end has of its own
abbrev pub timer_number : Role → Awaits → Due → ℕ
timer_number end awaits due.T1 = 1
timer_number end awaits due.Probe = 3
timer_number end awaits (due.Reset h) = 26
timer_number end awaits (due.ResetUnacknowledged h) = 25
timer_number Dte awaits due.Relink = 20
timer_number Dce awaits due.Relink = 10
timer_number Dte ResetConfirmation (due.Clear h) = 22
timer_number Dce ResetConfirmation (due.Clear h) = 12
timer_number Dte awaits (due.Clear h) = 21
timer_number Dce awaits (due.Clear h) = 11
timer_number Dte awaits (due.Restart h) = 23
timer_number Dce awaits (due.Restart h) = 13
