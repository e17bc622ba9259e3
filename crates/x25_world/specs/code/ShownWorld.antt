-- What a world holds, as clauses see it.
use Rattle.std.specs.Prelude.{ℕ, ◌+◌, ◌*◌, ◌≤◌, List, length, max}
use Rattle.x25_bits.specs.{declared.role.Role.{Role}, declared.role.Role.TheVariants.{Dte, Dce}}
use Rattle.x25_bits.specs.declared.direction.Direction.{Direction}
use Rattle.x25_bits.specs.declared.direction.Direction.TheVariants.{ToDce, ToDte}
use Rattle.x25_station.specs.declared.station.Station.{Station}
use Rattle.x25_world.specs.code.ShownLine.{ShownLine}

-- the stations, the octets on the line in each direction, front first, and for how many frames it has places in memory
pub record ShownWorld : Type 0 where
  pub dte : Station
  pub dce : Station
  pub to_dce : List (List ℕ)
  pub to_dte : List (List ℕ)
  pub places_to_dce : ℕ
  pub places_to_dte : ℕ

abbrev pub line_of : ShownWorld → Direction → List (List ℕ)
line_of v ToDce = v.to_dce
line_of v ToDte = v.to_dte

-- the line from an end
abbrev pub line_from : ShownWorld → Role → List (List ℕ)
line_from v Dte = v.to_dce
line_from v Dce = v.to_dte

abbrev pub station_of : ShownWorld → Role → Station
station_of v Dte = v.dte
station_of v Dce = v.dce

-- these stations, and this line between them
abbrev pub shown_with : Station → Station → ShownLine → ShownWorld
shown_with dte dce line = record {
  dte = dte;
  dce = dce;
  to_dce = line.to_dce;
  to_dte = line.to_dte;
  places_to_dce = line.places_to_dce;
  places_to_dte = line.places_to_dte;
}

-- where the line has more places than before in a direction, they are at most twice as many as frames were there, and
-- 9 more, as many as a step of a station sends
pub record TakesFewPlaces (old new : ShownWorld) : Type 0 where
  pub to_dce : new.places_to_dce ≤ max old.places_to_dce (2 * length old.to_dce + 9)
  pub to_dte : new.places_to_dte ≤ max old.places_to_dte (2 * length old.to_dte + 9)
