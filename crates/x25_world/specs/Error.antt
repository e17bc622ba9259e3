-- The number of each refusal of a world (profile).
use Rattle.std.specs.Prelude.{ℕ}
use Rattle.x25_station.specs.declared.error.StationError.{StationError}
use Rattle.x25_world.specs.declared.error.WorldError.{WorldError}
use Rattle.x25_world.specs.declared.error.WorldError.TheVariants.{BadConfig, Empty, NoSuchFrame, Unseen, Station}
use Rattle.x25_world.specs.declared.error.WorldError.TheVariants.{OnLine, NoMemory}
use Rattle.x25_station.specs.declared.error.StationError.TheVariants as station

abbrev pub number_of : WorldError → ℕ
number_of BadConfig = 14
number_of Empty = 50
number_of NoSuchFrame = 51
number_of Unseen = 52
number_of (Station error) = 53
number_of OnLine = 54
number_of NoMemory = 70

-- a station's want of memory is the world's
abbrev pub error_of : StationError → WorldError
error_of station.NoMemory = NoMemory
error_of e = Station e
