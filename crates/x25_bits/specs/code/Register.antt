-- The register that divides as the bits come.
use Rattle.std.specs.Prelude.{ℕ, Bool, false, if◌then◌else◌, List, [], ◌∷◌, ◌++◌}
use Rattle.x25_bits.specs.FrameCheck.{xor, add, divisor, low_bits}

-- the register after one bit
unfoldable pub stepped : List Bool → Bool → List Bool
stepped [] b = []
stepped (r ∷ rs) b = if xor r b then add divisor (rs ++ false ∷ []) else (rs ++ false ∷ [])

-- the register after these bits
unfoldable pub fed : List Bool → List Bool → List Bool
fed r [] = r
fed r (b ∷ bits) = fed (stepped r b) bits

-- what four words of eight octets leave in a register of zeros
abbrev pub words_leave : ℕ → ℕ → ℕ → ℕ → List Bool
words_leave a b c d = fed (fed (fed (fed (low_bits 16 0) (low_bits 64 a)) (low_bits 64 b)) (low_bits 64 c))
    (low_bits 64 d)
