-- Calls that read bits one after another. Profile.
use Rattle.std.specs.Prelude.{ℕ, ◌≡◌, ◌≤◌, ◌++◌, Bool, List, [], ◌∷◌, length}
use Rattle.x25_bits.specs.laws.Cuts.{found_more}
use Rattle.x25_bits.specs.code.Reading.{part}
use Rattle.x25_bits.specs.Found.{Class}

-- what one call answers: the place behind the last bit that it read, and what it found
pub record Call : Type 0 where
  pub to : ℕ
  pub found : List Class

-- behind the bits `before`, these calls read the bits from the place `at` to their end, each from where the one before
-- it stopped, and each found what these bits close
unfoldable pub ReadToEnd : List Bool → List Bool → ℕ → List Call → Type 0
ReadToEnd before bits at [] = at ≡ length bits
ReadToEnd before bits at (call ∷ calls) = (at ≤ call.to) × (call.to ≤ length bits)
    × (call.found ≡ found_more before (part at call.to bits))
    × ReadToEnd (before ++ part at call.to bits) bits call.to calls

-- the bits that came once these calls are done: those of each behind those before it
unfoldable pub after_calls : List Bool → List Bool → ℕ → List Call → List Bool
after_calls before bits at [] = before
after_calls before bits at (call ∷ calls) = after_calls (before ++ part at call.to bits) bits call.to calls
