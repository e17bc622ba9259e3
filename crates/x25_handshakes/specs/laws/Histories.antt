-- What an end handed down and up, of one kind.
use Rattle.std.specs.Prelude.{◌≡◌, List, [], ◌++◌}

-- of one kind, as messages: those handed down, those handed up
pub record Lists (M : Type 0) : Type 0 where
  pub down : List M
  pub up : List M

abbrev pub none : {M : Type 0} → Lists M
none = record { down = []; up = [] }

abbrev pub IsPrefix : {T : Type 0} → List T → List T → Type 0
IsPrefix {T} xs ys = (rest : List T) × (xs ++ rest ≡ ys)
