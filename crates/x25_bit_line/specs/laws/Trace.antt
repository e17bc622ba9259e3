-- A trace of frames that an end sends.
use Rattle.std.specs.Prelude.{◌<◌, ◌≤◌, ℕ, List, [], ◌∷◌, length, All}
use Rattle.std.specs.List.{flat_map}
use Rattle.x25_bits.specs.declared.role.Role.{Role}
use Rattle.x25_bit_line.specs.Deframing.{trace_line}

-- octets that a line can carry between two flags
pub record IsContent (octets : List ℕ) : Type 0 where
  pub small : All (λ octet. octet < 256) octets
  pub fewest : 4 ≤ length octets
  pub most : length octets ≤ 4103

abbrev pub AreContents : List (List ℕ) → Type 0
AreContents [] = Unit {0}
AreContents (octets ∷ frames) = IsContent octets × AreContents frames

-- the lines of a trace, one for each frame
abbrev pub trace_text : Role → List (List ℕ) → List ℕ
trace_text from frames = flat_map (trace_line from) frames
