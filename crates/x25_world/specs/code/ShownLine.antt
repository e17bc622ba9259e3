-- The line in both directions, as clauses see it.
use Rattle.std.specs.Prelude.{ℕ, ◌+◌, ◌-◌, ◌*◌, ◌≤◌, List, ◌++◌, length, max}
use Rattle.x25_bits.specs.{Role.{other}, declared.role.Role.{Role}, declared.role.Role.TheVariants.{Dte, Dce}}

-- the octets on the line to each end, front first, for how many frames more there is room in either direction, and for
-- how many in all each has places in memory
pub record ShownLine : Type 0 where
  pub to_dce : List (List ℕ)
  pub to_dte : List (List ℕ)
  pub room : ℕ
  pub places_to_dce : ℕ
  pub places_to_dte : ℕ

-- with the room and the places of another
abbrev pub with_room_of : ShownLine → ShownLine → ShownLine
with_room_of u v = record v {
  room = u.room;
  places_to_dce = u.places_to_dce;
  places_to_dte = u.places_to_dte;
}

-- where a direction has more places than before, they are at most twice as many as frames were there, and so many more
pub record TakesFew (count : ℕ) (old new : ShownLine) : Type 0 where
  pub to_dce : new.places_to_dce ≤ max old.places_to_dce (2 * length old.to_dce + count)
  pub to_dte : new.places_to_dte ≤ max old.places_to_dte (2 * length old.to_dte + count)

abbrev pub line_to : ShownLine → Role → List (List ℕ)
line_to v Dce = v.to_dce
line_to v Dte = v.to_dte

-- with other octets on the line to an end
abbrev pub with_line_to : ShownLine → Role → List (List ℕ) → ShownLine
with_line_to v Dce frames = record v { to_dce = frames }
with_line_to v Dte frames = record v { to_dte = frames }

-- frames are put on the line by an end, in room that there is
abbrev pub put_by : ShownLine → Role → List (List ℕ) → ShownLine
put_by v from frames =
    let u = with_line_to v (other from) (line_to v (other from) ++ frames) in record u { room = v.room - length frames }
