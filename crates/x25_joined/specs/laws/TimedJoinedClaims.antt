-- What holds of what two joined programs with clocks wrote, after every history.
use Rattle.std.specs.Prelude.{◌≡◌, ◌≤◌, ℕ, true, List, Some, None}
use Rattle.x25_bits.specs.Role.{other}
use Rattle.x25_bits.specs.declared.role.Role.{Role}
use Rattle.x25_handshakes.specs.laws.Names.{Name}
use Rattle.x25_layer.specs.laws.Law.{HandsUpLawfully, HasAllOf}
use Rattle.x25_layer.specs.laws.Transcript.{Entry}
use Rattle.x25_station.specs.declared.config.Cfg.{Cfg}
use Rattle.x25_station.specs.Config.{settings_from, config_refusal}
use Rattle.x25_station.specs.Entry.{StationEntry, layer_entries}
use Rattle.x25_station.specs.Station.{Station}
use Rattle.x25_station.specs.Station.Told.{is_idle, stretch}
use Rattle.x25_world.specs.laws.Claims.{ups_in}
use Rattle.x25_joined.specs.laws.Joined.{Joined, Happening}
use Rattle.x25_joined.specs.laws.Joined.{nothing_read}
use Rattle.x25_joined.specs.laws.JoinedClaims.{read_by}
use Rattle.x25_joined.specs.laws.Played.{timed_written, timed_station, timed_entries}
use Rattle.x25_joined.specs.laws.Played.{timed_frames}
use Rattle.x25_joined.specs.laws.JoinedClaims.{put_by}
use Rattle.x25_world.specs.World as world
use Rattle.x25_world.specs.World.{World, AreAccepted, start}
use Rattle.x25_world.specs.laws.Claims.{AreInOctets, station_at, entries_at}
use Rattle.x25_joined.specs.laws.TimedJoined.{Clocks, run, ArePossible}

abbrev pub station_by : Cfg → Clocks → Role → Joined → Station
station_by cfg clocks end j = timed_station (settings_from end cfg) (clocks end) (read_by end j)

abbrev pub entries_by : Cfg → Clocks → Role → Joined → List StationEntry
entries_by cfg clocks end j = timed_entries (timed_written (settings_from end cfg) (clocks end) (read_by end j))

-- what the users of its channels asked and were told
abbrev pub handed_by : Cfg → Clocks → Role → Joined → List Entry
handed_by cfg clocks end j = layer_entries (entries_by cfg clocks end j)

abbrev pub frames_by : Cfg → Clocks → Role → Joined → List (List ℕ)
frames_by cfg clocks end j = timed_frames (timed_written (settings_from end cfg) (clocks end) (read_by end j))

-- as `Tells`: events of two stations, each accepted, from both links down
pub record TellsTimed (cfg : Cfg) (clocks : Clocks) (j : Joined) (w : World) : Type 0 where
  pub events : List world.Event
  pub accepted : AreAccepted cfg events start
  pub octets : AreInOctets events
  pub run : world.run cfg events start ≡ w
  pub stations : (end : Role) → station_at end w ≡ station_by cfg clocks end j
  pub out : w.out ≡ j.out
  pub back : w.back ≡ j.back
  pub entries : (end : Role) → entries_at end w.transcript ≡ entries_by cfg clocks end j
  pub frames : (end : Role) → put_by end w.tap ≡ frames_by cfg clocks end j

-- what holds of the world that the programs tell of, after each history
abbrev pub OfTimedPrograms : (Cfg → World → Type 0) → Type 0
OfTimedPrograms Holds = (cfg : Cfg) (clocks : Clocks) → config_refusal cfg ≡ None → (history : List Happening)
    → ArePossible cfg clocks history nothing_read
    → (w : World) × TellsTimed cfg clocks (run cfg clocks history nothing_read) w × Holds cfg w

abbrev pub IsUpAtMostOnce : Cfg → Clocks → Joined → Type 0
IsUpAtMostOnce cfg clocks j = (end : Role) → ups_in (entries_by cfg clocks end j) ≤ 1

abbrev pub OfTimedProgramsUpOnce : (Cfg → World → Type 0) → Type 0
OfTimedProgramsUpOnce Holds = (cfg : Cfg) (clocks : Clocks) → config_refusal cfg ≡ None → (history : List Happening)
    → ArePossible cfg clocks history nothing_read → IsUpAtMostOnce cfg clocks (run cfg clocks history nothing_read)
    → (w : World) × TellsTimed cfg clocks (run cfg clocks history nothing_read) w × Holds cfg w

abbrev pub UntilSecondUpTimed : (Cfg → Clocks → Joined → Type 0) → Type 0
UntilSecondUpTimed Holds = (cfg : Cfg) (clocks : Clocks) → config_refusal cfg ≡ None → (history : List Happening)
    → ArePossible cfg clocks history nothing_read → IsUpAtMostOnce cfg clocks (run cfg clocks history nothing_read)
    → Holds cfg clocks (run cfg clocks history nothing_read)

-- On each channel and under each name of a stretch, the messages, the interrupts and the calls that an end's program
-- tells of as handed up are a beginning of those that the other's tells of as handed down.
abbrev pub AreLawfulTimed : Cfg → Clocks → Joined → Type 0
AreLawfulTimed cfg clocks j =
    (end : Role) → HandsUpLawfully (handed_by cfg clocks end j) (handed_by cfg clocks (other end) j)

-- Where an end is idle, and the same stretch of a channel is open at both ends, all messages and interrupts of that
-- stretch arrived.
abbrev pub ArriveTimed : Cfg → Clocks → Joined → Type 0
ArriveTimed cfg clocks j =
    (end : Role) (channel : ℕ) (name : Name) → is_idle (settings_from end cfg) (station_by cfg clocks end j) ≡ true
    → stretch (settings_from end cfg) (station_by cfg clocks end j) channel ≡ Some name
    → stretch (settings_from (other end) cfg) (station_by cfg clocks (other end) j) channel ≡ Some name
    → HasAllOf channel name (handed_by cfg clocks end j) (handed_by cfg clocks (other end) j)
