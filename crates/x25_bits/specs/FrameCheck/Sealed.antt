-- Octets with their frame check sequence behind them.
use Rattle.std.specs.Prelude.{ℕ, ◌+◌, ◌*◌, ◌-◌, ◌/◌, ◌%◌, ◌≡◌, ◌==◌, ◌&&◌, nat_le, Bool, List, [], ◌∷◌, ◌++◌, length}
use Rattle.std.specs.Prelude.{take, drop, slice_index}
use Rattle.x25_bits.specs.FrameCheck.{fcs_of}

-- the two octets of the frame check sequence, the low one first
abbrev pub seal_of : List ℕ → List ℕ
seal_of body = fcs_of body % 256 ∷ fcs_of body / 256 ∷ []

-- the octets are some octets, and then the frame check sequence of these
abbrev pub IsSealed : List ℕ → Type 0
IsSealed octets = (body : List ℕ) × (octets ≡ body ++ seal_of body)

-- the same as a test
unfoldable pub is_sealed : List ℕ → Bool
is_sealed octets = let at = length octets - 2 in let last = drop at octets in
    nat_le 2 (length octets) && slice_index last 0 + 256 * slice_index last 1 == fcs_of (take at octets)
