-- What still waits in the circuits of two stations where both links are idle and a pull gives nothing.
use Rattle.std.specs.Prelude.{◌≡◌, ℕ, List, true, false, Some}
use Rattle.x25_bits.specs.{declared.role.Role.{Role}, declared.role.Role.TheVariants.{Dte, Dce}}
use Rattle.x25_link.specs.Hearing.{other}
use Rattle.x25_circuit.specs.Circuit.{is_open, waits}
use Rattle.x25_handshakes.specs.laws.Names.{Name}
use Rattle.x25_layer.specs.{Calls.{PullsAll}, laws.Transcript.{Entry}, laws.Law.{HasAllOf}, laws.WaitLaw.{PullsNone}}
use Rattle.x25_station.specs.{declared.config.Cfg.{Cfg}, Config.{settings_from, layer_settings}, Command.{Requests}}
use Rattle.x25_station.specs.{Station.{Station}, Station.Told.{stretch}}
use Rattle.x25_world.specs.World.{World, Event, Commands, Happened, happens, after}
use Rattle.x25_world.specs.{laws.Sessions.{last_session, handed_in}, laws.Claims.{station_at}}
use Rattle.x25_link.specs.Link as link

-- the data packets that wait at an end are pulled
abbrev pub pull_at : Role → Event
pull_at end = record { at = end; act = Commands (Requests PullsAll) }

-- Of a stretch of channel k that is open at both ends: no message of it waits and all messages and interrupts that the
-- giver was handed down in it were handed up, or the user at the other end isn't ready (section 4.4.1.5).
pub data WaitsForUser (k : ℕ) (name : Name) (giver taker : Station) (down up : List Entry) : Type 0 where
  Arrived : waits (giver.layer.circuits k) ≡ 0 → HasAllOf k name down up → WaitsForUser k name giver taker down up
  NotReady : (taker.layer.circuits k).talk.own_ready ≡ false → WaitsForUser k name giver taker down up

-- A stretch that is open at an end is open at the other end too, and what waits in it waits for that end's user.
abbrev pub WaitsAlone : Cfg → World → Role → ℕ → Name → Type 0
WaitsAlone cfg w end channel name =
    (stretch (settings_from (other end) cfg) (station_at (other end) w) channel ≡ Some name)
    × WaitsForUser channel name (station_at end w) (station_at (other end) w) (handed_in end (last_session end w) w)
    (handed_in (other end) (last_session (other end) w) w)

-- each stretch that is open is so
abbrev pub AllWaitForUsers : Cfg → World → Type 0
AllWaitForUsers cfg w = (end : Role) (channel : ℕ) (name : Name)
    → stretch (settings_from end cfg) (station_at end w) channel ≡ Some name → WaitsAlone cfg w end channel name

-- Where both links are idle and a pull at an end gives nothing, so that its layer stays as it was, each stretch that is
-- open there is so.
abbrev pub MessagesWaitForUsers : Cfg → World → Type 0
MessagesWaitForUsers cfg w =
    (end : Role) (channel : ℕ) (name : Name) (pulled : World) → link.is_idle (station_at end w).link ≡ true
    → link.is_idle (station_at (other end) w).link ≡ true → happens cfg w (pull_at end) ≡ Happened pulled
    → (station_at end pulled).layer ≡ (station_at end w).layer
    → stretch (settings_from end cfg) (station_at end w) channel ≡ Some name → WaitsAlone cfg w end channel name

-- a pull of any channel of an end gives no packet, where no restart is under way there
abbrev pub HasNoneToPull : Cfg → World → Role → Type 0
HasNoneToPull cfg w end = (station_at end w).layer.restarting ≡ false
    → PullsNone (layer_settings (settings_from end cfg)) (station_at end w).layer

-- Behind a pull at an end, accepted or not, that is so where its link is idle.
abbrev pub PullsLeaveNone : Type 0
PullsLeaveNone = (cfg : Cfg) (w : World) (end : Role)
    → (let v = after w (happens cfg w (pull_at end)) in link.is_idle (station_at end v).link ≡ true
    → HasNoneToPull cfg v end)

-- Where both links are idle and that is so of both ends, what waits in any stretch waits for a user.
abbrev pub UnpulledWaitForUsers : Cfg → World → Type 0
UnpulledWaitForUsers cfg w =
    link.is_idle (station_at Dte w).link ≡ true → link.is_idle (station_at Dce w).link ≡ true → HasNoneToPull cfg w Dte
    → HasNoneToPull cfg w Dce → AllWaitForUsers cfg w

-- a circuit that isn't open keeps no message
abbrev pub ClosedKeepNone : Cfg → World → Type 0
ClosedKeepNone cfg w = (end : Role) (channel : ℕ) → is_open ((station_at end w).layer.circuits channel) ≡ false
    → waits ((station_at end w).layer.circuits channel) ≡ 0
