-- The line at the front of a text.
use Rattle.std.specs.Prelude.{◌≡◌, ◌<◌, ℕ, List, length, slice_index, take}
use Rattle.x25_io.specs.Lines.{IsOpen}

-- the first line feed stands behind so many characters
abbrev pub StandsInFront : ℕ → List ℕ → Type 0
StandsInFront count text = (count < length text) × (slice_index text count ≡ 10) × IsOpen (take count text)
