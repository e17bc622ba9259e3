-- Flags and spans of a whole list of bits. ITU-T X.25 (10/96), section 2.2.2; that two flags may share the 0
-- between them is profile.
use Rattle.std.specs.Prelude.{ℕ, zero, suc, ◌+◌, ◌-◌, Bool, true, false, if◌then◌else◌, List, [], ◌∷◌, ◌++◌, length}
use Rattle.std.specs.Prelude.{take, drop}

-- the flag sequence: a 0, six 1 bits and a 0
abbrev pub flag : List Bool
flag = false ∷ true ∷ true ∷ true ∷ true ∷ true ∷ true ∷ false ∷ []

-- the bits begin with a flag
unfoldable pub begins_with_flag : List Bool → Bool
begins_with_flag (false ∷ true ∷ true ∷ true ∷ true ∷ true ∷ true ∷ false ∷ bits) = true
begins_with_flag bits = false

-- a flag stands at place i
unfoldable pub is_flag_at : List Bool → ℕ → Bool
is_flag_at bits i = begins_with_flag (drop i bits)

-- the places below n where a flag stands, in order
unfoldable pub places_below : ℕ → List Bool → List ℕ
places_below zero bits = []
places_below (suc n) bits = places_below n bits ++ (if is_flag_at bits n then n ∷ [] else [])

abbrev pub flag_places : List Bool → List ℕ
flag_places bits = places_below (length bits) bits

-- what lies between neighbouring places: from behind the first flag to where the second begins, nothing where
-- the second begins with the last bit of the first
unfoldable pub between : List Bool → List ℕ → List (List Bool)
between bits [] = []
between bits (i ∷ []) = []
between bits (i ∷ j ∷ places) = take (j - (i + 8)) (drop (i + 8) bits) ∷ between bits (j ∷ places)

-- the spans between neighbouring flags
abbrev pub spans_of : List Bool → List (List Bool)
spans_of bits = between bits (flag_places bits)
