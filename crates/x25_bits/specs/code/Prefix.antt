-- A list that begins another one. Profile.
use Rattle.std.specs.Prelude.{◌≡◌, List, ◌++◌}

-- the second list is the first one and something behind it
abbrev pub IsPrefix : {A : Type 0} → List A → List A → Type 0
IsPrefix {A = A} first second = (more : List A) × (second ≡ first ++ more)
