-- The entries of a step (profile), and the memory of what they say.
use Rattle.std.specs.Prelude.{◌≡◌, ℕ, ◌+◌, ◌≤◌, List, length, Vec, vec_len, vec_capacity}
use Rattle.x25_circuit.specs.Calling.{Request, Calls, Sends, Interrupts}
use Rattle.x25_station.specs.declared.entry.Entry.{Entry}
use Rattle.x25_station.specs.declared.lent.Lent.{Lent}
use Rattle.x25_station.specs.Entry.{StationEntry, came_beside}
use Rattle.x25_station.specs.code.PlainEntry.{plain_entry}

-- what is lent with the entries of a step, and what they say with that: at most three
pub record ShownEntries : Type 0 where
  pub lent : Lent
  pub items : List StationEntry
  pub few : length items ≤ 3

-- an entry says all itself
abbrev pub IsWhole : Entry → Type 0
IsWhole entry = (lent before : Lent) → plain_entry lent entry ≡ plain_entry before entry

-- how many of the entries came beside
abbrev pub comes_beside : StationEntry → ℕ
comes_beside (came_beside channel facilities user) = 1
comes_beside entry = 0

-- requests of which the memory has room for a copy
abbrev pub IsBrief : Request → Type 0
IsBrief (Calls called calling user proposal) =
    (length called ≤ 128) × ((length calling ≤ 128) × (length user ≤ 128))
IsBrief (Sends marks user) = length user ≤ 65535
IsBrief (Interrupts user) = length user ≤ 128
IsBrief _ = Unit {0}

-- a list has room for so many more
abbrev pub HasPlaces : {X Z : Type 0} → ℕ → Vec X Z → Type 0
HasPlaces count list = vec_len list + count ≤ vec_capacity list

-- it grew by so many at most, in the room that it had
pub record GrowsBy {X Z : Type 0} (count : ℕ) (old new : Vec X Z) : Type 0 where
  pub length : vec_len new ≤ vec_len old + count
  pub capacity : vec_capacity new ≡ vec_capacity old
