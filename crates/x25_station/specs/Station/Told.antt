-- What a station tells of itself (profile).
use Rattle.std.specs.Prelude.{ℕ, ◌==◌, Bool, true, false, ◌&&◌, ◌||◌, not, nat_lt, if◌then◌else◌, Option, Some}
use Rattle.std.specs.Prelude.{None}
use Rattle.x25_link.specs.Station.{is_up}
use Rattle.x25_link.specs.Link as link
use Rattle.x25_handshakes.specs.laws.Names.{Name}
use Rattle.x25_layer.specs.Layer.MessageRoom.{room_at}
use Rattle.x25_layer.specs.laws.Transcript.{name_of}
use Rattle.x25_layer.specs.code.FitsLayer.{is_open_at, waits_up_to, awaited_up_to}
use Rattle.x25_station.specs.Config.{Settings, layer_settings}
use Rattle.x25_station.specs.Station.{Station}
use Rattle.x25_station.specs.Step.{Outcome, Did, Refused}

-- the link is up, no packet waits in it, all that was sent is acknowledged, and no message waits in a circuit
abbrev pub is_idle : Settings → Station → Bool
is_idle c s = link.is_idle s.link && waits_up_to s.layer.circuits c.channels.count == 0

-- the link is so, whatever waits in circuits, and timer T1 doesn't run
abbrev pub is_at_rest : Station → Bool
is_at_rest s = link.is_idle s.link && not (link.timer_runs s.link.phase s.link)

-- an answer is awaited, of a restart or on a channel
abbrev pub awaits_answers : Settings → Station → Bool
awaits_answers c s = s.layer.restarting || nat_lt 0 (awaited_up_to s.layer.circuits c.channels.count)

-- the name of the stretch that is open on a channel, in p4 with d1
abbrev pub stretch : Settings → Station → ℕ → Option Name
stretch c s h = if is_open_at (layer_settings c) s.layer h then Some (name_of s.layer h) else None

-- how many messages more a channel takes, none unless the link is up
abbrev pub room : Settings → Station → ℕ → ℕ
room c s h = if is_up s.link.phase then room_at (layer_settings c) s.layer h else 0

-- whether a call is refused, but for want of memory
abbrev pub is_refused : Outcome → Bool
is_refused (Did step) = false
is_refused (Refused e) = true
