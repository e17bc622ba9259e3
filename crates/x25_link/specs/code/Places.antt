-- The two sizes of places in which packets stand until they are acknowledged.
use Rattle.std.specs.Prelude.{ℕ, ◌+◌, nat_le, if◌then◌else◌, List, [], ◌∷◌, length}

-- how many places have no packet, and how many there are
pub record ShownSpares : Type 0 where
  pub left : ℕ
  pub all : ℕ

-- the octets of the place of a packet of so many octets
abbrev pub room_for : ℕ → ℕ
room_for n = if nat_le n 260 then 260 else 4099

-- 1 for a packet that stands in a long place, and 0 for any other
abbrev pub long_of : List ℕ → ℕ
long_of packet = if nat_le (length packet) 260 then 0 else 1

-- how many packets of a list stand in long places
unfoldable pub longs : List (List ℕ) → ℕ
longs [] = 0
longs (packet ∷ rest) = long_of packet + longs rest

-- how many places are left for a packet of so many octets
abbrev pub left_for : ShownSpares → ShownSpares → ℕ → ℕ
left_for short long n = if nat_le n 260 then short.left else long.left
