-- Bits that come cut by cut. Profile.
use Rattle.std.specs.Prelude.{Bool, List, [], ◌∷◌, ◌++◌, length, drop}
use Rattle.x25_bits.specs.Found.{Class, found_of}

-- what one more cut finds, behind the bits before it
abbrev pub found_more : List Bool → List Bool → List Class
found_more before cut = drop (length (found_of before)) (found_of (before ++ cut))

-- what these cuts find, one after another
unfoldable pub found_by_cuts : List Bool → List (List Bool) → List Class
found_by_cuts before [] = []
found_by_cuts before (cut ∷ cuts) = found_more before cut ++ found_by_cuts (before ++ cut) cuts
