-- What holds of what two joined programs wrote, after every history.
use Rattle.std.specs.Prelude.{◌≡◌, ◌≤◌, ℕ, true, List, [], ◌∷◌, ◌++◌, Some, None}
use Rattle.x25_bits.specs.Role.{other}
use Rattle.x25_bits.specs.declared.role.Role.{Role}
use Rattle.x25_bits.specs.declared.role.Role.TheVariants.{Dte, Dce}
use Rattle.x25_handshakes.specs.laws.Names.{Name}
use Rattle.x25_layer.specs.laws.Law.{HandsUpLawfully, HasAllOf}
use Rattle.x25_layer.specs.laws.Transcript.{Entry}
use Rattle.x25_station.specs.declared.config.Cfg.{Cfg}
use Rattle.x25_station.specs.Entry.{StationEntry, layer_entries}
use Rattle.x25_station.specs.Config.{settings_from, config_refusal}
use Rattle.x25_station.specs.Station.{Station}
use Rattle.x25_station.specs.Station.Told.{is_idle, stretch}
use Rattle.x25_world.specs.World as world
use Rattle.x25_world.specs.World.{OnTap, World, AreAccepted, start}
use Rattle.x25_world.specs.laws.Claims.{AreInOctets, station_at, entries_at, ups_in}
use Rattle.x25_joined.specs.laws.Joined.{Joined, Happening, nothing_read, run, ArePossible, written, station_of}
use Rattle.x25_joined.specs.laws.Joined.{entries_in, frames_in}

-- ---- the program of an end

abbrev pub read_by : Role → Joined → List ℕ
read_by Dte j = j.near
read_by Dce j = j.far

abbrev pub station_by : Cfg → Role → Joined → Station
station_by cfg end j = station_of (settings_from end cfg) (read_by end j)

abbrev pub entries_by : Cfg → Role → Joined → List StationEntry
entries_by cfg end j = entries_in (written (settings_from end cfg) (read_by end j))

abbrev pub frames_by : Cfg → Role → Joined → List (List ℕ)
frames_by cfg end j = frames_in (written (settings_from end cfg) (read_by end j))

-- what the users of its channels asked and were told
abbrev pub handed_by : Cfg → Role → Joined → List Entry
handed_by cfg end j = layer_entries (entries_by cfg end j)

-- ---- a run of two stations

abbrev pub frame_of_end : Role → Role → List ℕ → List (List ℕ)
frame_of_end Dte Dte octets = octets ∷ []
frame_of_end Dce Dce octets = octets ∷ []
frame_of_end end from octets = []

-- what an end put on the line
abbrev pub put_by : Role → List OnTap → List (List ℕ)
put_by end [] = []
put_by end (t ∷ tap) = frame_of_end end t.from t.octets ++ put_by end tap

-- Events of two stations, each accepted, from both links down: they lead to the stations behind the programs, and to
-- the frames on the line. The entries that each program wrote are the transcript of its end, and the frames are those
-- that it put on the line.
pub record Tells (cfg : Cfg) (j : Joined) (w : World) : Type 0 where
  pub events : List world.Event
  pub accepted : AreAccepted cfg events start
  pub octets : AreInOctets events
  pub run : world.run cfg events start ≡ w
  pub stations : (end : Role) → station_at end w ≡ station_by cfg end j
  pub out : w.out ≡ j.out
  pub back : w.back ≡ j.back
  pub entries : (end : Role) → entries_at end w.transcript ≡ entries_by cfg end j
  pub frames : (end : Role) → put_by end w.tap ≡ frames_by cfg end j

-- what holds of the world that the programs tell of, after each history
abbrev pub OfPrograms : (Cfg → World → Type 0) → Type 0
OfPrograms Holds = (cfg : Cfg) → config_refusal cfg ≡ None → (history : List Happening)
    → ArePossible cfg history nothing_read → (w : World) × Tells cfg (run cfg history nothing_read) w × Holds cfg w

abbrev pub AreWorlds : Type 0
AreWorlds = (cfg : Cfg) → config_refusal cfg ≡ None → (history : List Happening) → ArePossible cfg history nothing_read
    → (w : World) × Tells cfg (run cfg history nothing_read) w

-- ---- up to the moment at which a program tells of LinkUp a second time

abbrev pub IsUpAtMostOnce : Cfg → Joined → Type 0
IsUpAtMostOnce cfg j = (end : Role) → ups_in (entries_by cfg end j) ≤ 1

abbrev pub OfProgramsUpOnce : (Cfg → World → Type 0) → Type 0
OfProgramsUpOnce Holds =
    (cfg : Cfg) → config_refusal cfg ≡ None → (history : List Happening) → ArePossible cfg history nothing_read
    → IsUpAtMostOnce cfg (run cfg history nothing_read)
    → (w : World) × Tells cfg (run cfg history nothing_read) w × Holds cfg w

abbrev pub UntilSecondUp : (Cfg → Joined → Type 0) → Type 0
UntilSecondUp Holds =
    (cfg : Cfg) → config_refusal cfg ≡ None → (history : List Happening) → ArePossible cfg history nothing_read
    → IsUpAtMostOnce cfg (run cfg history nothing_read)
    → Holds cfg (run cfg history nothing_read)

-- On each channel and under each name of a stretch, the messages, the interrupts and the calls that an end's program
-- tells of as handed up are a beginning of those that the other's tells of as handed down.
abbrev pub AreLawful : Cfg → Joined → Type 0
AreLawful cfg j = (end : Role) → HandsUpLawfully (handed_by cfg end j) (handed_by cfg (other end) j)

-- Where an end is idle, and the same stretch of a channel is open at both ends, all messages and interrupts of that
-- stretch arrived.
abbrev pub Arrive : Cfg → Joined → Type 0
Arrive cfg j =
    (end : Role) (channel : ℕ) (name : Name) → is_idle (settings_from end cfg) (station_by cfg end j) ≡ true
    → stretch (settings_from end cfg) (station_by cfg end j) channel ≡ Some name
    → stretch (settings_from (other end) cfg) (station_by cfg (other end) j) channel ≡ Some name
    → HasAllOf channel name (handed_by cfg end j) (handed_by cfg (other end) j)
