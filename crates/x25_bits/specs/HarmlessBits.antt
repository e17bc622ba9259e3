-- Bits in the place of those between the flags of a frame, of which no frame comes. Profile.
use Rattle.std.specs.Prelude.{ℕ, ◌≡◌, ◌<◌, ◌≤◌, Bool, true, false, if◌then◌else◌, List, [], ◌∷◌, ◌++◌, length, All}
use Rattle.std.specs.List.{flat_map}
use Rattle.x25_bits.specs.Deframer.{flag, spans_of}
use Rattle.x25_bits.specs.Found.{Class, Content, Abort, Short, Long, Ragged, class_of, found_of}
use Rattle.x25_bits.specs.FrameCheck.Sealed.{is_sealed}

-- the bits between two flags
abbrev pub between_flags : List Bool → List Bool
between_flags bits = flag ++ bits ++ flag

-- between two flags no span of the bits is a content that passes the check
abbrev pub IsHarmless : List Bool → Type 0
IsHarmless bits = All (λ span. (octets : List ℕ) → class_of span ≡ Content octets
    → is_sealed octets ≡ false) (spans_of (between_flags bits))

-- what is found is a content that passes the check
abbrev pub is_sealed_content : Class → Bool
is_sealed_content (Content octets) = is_sealed octets
is_sealed_content Abort = false
is_sealed_content Short = false
is_sealed_content Long = false
is_sealed_content Ragged = false

-- the octets of such a content
abbrev pub sealed_octets : Class → List (List ℕ)
sealed_octets (Content octets) = if is_sealed octets then octets ∷ [] else []
sealed_octets Abort = []
sealed_octets Short = []
sealed_octets Long = []
sealed_octets Ragged = []

-- the contents among the spans of the bits that pass the check, in order
abbrev pub sealed_contents : List Bool → List (List ℕ)
sealed_contents bits = flat_map sealed_octets (found_of bits)

-- octets that a frame can have, the last two its frame check sequence
pub record IsFrame (octets : List ℕ) : Type 0 where
  pub small : All (λ octet. octet < 256) octets
  pub fewest : 4 ≤ length octets
  pub most : length octets ≤ 4103
  pub sealed : is_sealed octets ≡ true

-- the first content that is found, no octets where none is
unfoldable pub first_content : List Class → List ℕ
first_content [] = []
first_content (Content octets ∷ found) = octets
first_content (Abort ∷ found) = first_content found
first_content (Short ∷ found) = first_content found
first_content (Long ∷ found) = first_content found
first_content (Ragged ∷ found) = first_content found
