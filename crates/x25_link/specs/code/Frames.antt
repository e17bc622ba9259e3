-- Frames to send, as the octets that spell them.
use Rattle.std.specs.Prelude.{ℕ, ◌-◌, List, length}

-- for how many more there are places
abbrev pub places_left : List (List ℕ) → ℕ
places_left frames = 25 - length frames
