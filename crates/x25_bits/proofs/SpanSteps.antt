-- The spans found bit by bit.
use Rattle.std.specs.Prelude.{◌≡◌, ℕ, ◌-◌, ◌+◌, Bool, true, false, if◌then◌else◌, List, [], ◌∷◌, ◌++◌, length, take, drop}
use Rattle.x25_bits.specs.Deframer.{is_flag_at}

-- whether a flag has come, and the bits from its last one on, or all bits
pub record State : Type 0 where
  pub is_open : Bool
  pub text : List Bool

abbrev pub start : State
start = record { is_open = false; text = [] }

abbrev pub closed : List Bool → List Bool
closed text = take (length text - 9) (drop 1 text)

abbrev pub ends_flag : List Bool → Bool
ends_flag text = is_flag_at text (length text - 8)

abbrev pub stepped : State → Bool → State
stepped s b = if ends_flag (s.text ++ b ∷ []) then record { is_open = true; text = false ∷ [] } else record s { text = s.text ++ b ∷ [] }

abbrev pub found : State → Bool → List (List Bool)
found s b = if ends_flag (s.text ++ b ∷ []) then (if s.is_open then closed (s.text ++ b ∷ []) ∷ [] else []) else []

-- the last of the places, or d
abbrev pub last_or : ℕ → List ℕ → ℕ
last_or d [] = d
last_or d (i ∷ places) = last_or i places

-- the state fits the bits so far, whose flag places these are
abbrev pub FitsAt : State → List Bool → List ℕ → Type 0
FitsAt s bits [] = s ≡ record { is_open = false; text = bits }
FitsAt s bits (i ∷ places) = s ≡ record { is_open = true; text = drop (last_or i places + 7) bits }
