-- What a program `x25 station` with a clock writes, and what one without a clock does.
use Rattle.std.specs.Prelude.{◌≡◌, ℕ, ◌≤◌, List}
use Rattle.std.specs.List.{flat_map}
use Rattle.x25_clock.specs.declared.times.Times.{Times}
use Rattle.x25_station.specs.Config.{Settings}
use Rattle.x25_pipe.specs.Timed.{timed_text}
use Rattle.x25_joined.specs.laws.Joined.{written, station_of, entries_in, frames_in}
use Rattle.x25_joined.specs.laws.Played.{timed_line, timed_written, timed_station, timed_entries, timed_frames}
use Rattle.x25_joined.specs.laws.Played.{AreSaid, plays, without_clock}

-- the text that it writes is that of what it says
abbrev pub SaidIsWritten : Type 0
SaidIsWritten = (c : Settings) (times : Times) (input : List ℕ)
    → flat_map (timed_line c.role) (timed_written c times input) ≡ timed_text c times input

-- the entries, the frames and the station are those of a program without a clock that reads those lines
pub record IsWithoutClock (c : Settings) (times : Times) (input : List ℕ) : Type 0 where
  pub station : station_of c (without_clock c times input) ≡ timed_station c times input
  pub entries : entries_in (written c (without_clock c times input)) ≡ timed_entries (timed_written c times input)
  pub frames : frames_in (written c (without_clock c times input)) ≡ timed_frames (timed_written c times input)

abbrev pub AreProgramsWithoutClock : Type 0
AreProgramsWithoutClock =
    (c : Settings) (times : Times) (input : List ℕ) → c.channels.count ≤ 4095 → AreSaid c (plays c times input)
    → IsWithoutClock c times input
