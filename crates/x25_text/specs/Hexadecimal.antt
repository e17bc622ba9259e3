-- The octets that hexadecimal digits write, as `hex` decodes them, with no account of where a fault is (profile).
use Rattle.std.specs.Prelude.{ℕ, ◌+◌, ◌*◌, List, [], ◌∷◌, Option, Some, None, unwrap_or}
use Rattle.hex.specs.Hex.{hex_digit_value}

-- an octet before the others, where all are there
abbrev pub joined : Option ℕ → Option ℕ → Option (List ℕ) → Option (List ℕ)
joined (Some high) (Some low) (Some octets) = Some ((high * 16 + low) ∷ octets)
joined (Some high) (Some low) None = None
joined (Some high) None octets = None
joined None low octets = None

-- two digits for each octet, the high one first
unfoldable pub octets_of : List ℕ → Option (List ℕ)
octets_of [] = Some []
octets_of (digit ∷ []) = None
octets_of (high ∷ low ∷ rest) = joined (hex_digit_value high) (hex_digit_value low) (octets_of rest)

-- the value of a digit, 255 of another character
abbrev pub value_of : ℕ → ℕ
value_of character = unwrap_or (hex_digit_value character) 255

-- two values for each octet
abbrev pub paired : List ℕ → List ℕ
paired [] = []
paired (high ∷ []) = []
paired (high ∷ low ∷ rest) = (high * 16 + low) ∷ paired rest
