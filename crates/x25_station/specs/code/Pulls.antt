-- What a pull behind a step leaves, and what it sends.
use Rattle.std.specs.Prelude.{◌≡◌, ℕ, List, ◌++◌, map}
use Rattle.x25_frame.specs.Spelling.{spelling_of}
use Rattle.x25_station.specs.declared.station.Station as code
use Rattle.x25_station.specs.Pulling.{pulled}
use Rattle.x25_station.specs.Config.{Settings}
use Rattle.x25_station.specs.Station.{Station}
use Rattle.x25_station.specs.code.FitsStation.{FitsStation}

-- its frames come behind others
pub record Pulls (old new : code.Station) (before after : List (List ℕ)) : Type 0 where
  pub state : (c : Settings) (s : Station) → FitsStation c old s → FitsStation c new (pulled c s).near
  pub frames : (c : Settings) (s : Station) → FitsStation c old s →
      after ≡ before ++ map (spelling_of c.role) (pulled c s).out
