-- The lines of a text, each without its line feed; the last may lack it (profile).
use Rattle.std.specs.Prelude.{◌≢◌, ℕ, ◌==◌, List, [], ◌∷◌, if◌then◌else◌}

-- the octet in front of the first line
abbrev pub onto : ℕ → List (List ℕ) → List (List ℕ)
onto octet [] = (octet ∷ []) ∷ []
onto octet (line ∷ lines) = (octet ∷ line) ∷ lines

unfoldable pub lines_of : List ℕ → List (List ℕ)
lines_of [] = []
lines_of (octet ∷ octets) = if octet == 10 then [] ∷ lines_of octets else onto octet (lines_of octets)

-- no line feed stands in the octets
abbrev pub IsOpen : List ℕ → Type 0
IsOpen [] = Unit {0}
IsOpen (octet ∷ octets) = (octet ≢ 10) × IsOpen octets
