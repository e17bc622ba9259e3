-- What is held of a line that has begun (profile).
use Rattle.std.specs.Prelude.{◌≡◌, ℕ, ◌<◌, Bool, true, false, List, length}
use Rattle.x25_io.specs.declared.held_line.HeldLine.{HeldLine}

-- the most characters of a line, without its line feed
abbrev pub most_line : ℕ
most_line = 131200

-- its characters, or that it is longer than any line of the grammar
abbrev pub HoldsIn : List ℕ → List ℕ → Bool → Type 0
HoldsIn begun characters true = most_line < length begun
HoldsIn begun characters false = characters ≡ begun

abbrev pub HoldsLine : List ℕ → HeldLine → Type 0
HoldsLine begun held = HoldsIn begun held.characters.items held.is_long
