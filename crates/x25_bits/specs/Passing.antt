-- Bits in which no flag ends and no seventh 1 bit comes. Profile.
use Rattle.std.specs.Prelude.{ℕ, ◌≡◌, ◌==◌, Bool, true, false, if◌then◌else◌, List, [], ◌∷◌}
use Rattle.x25_bits.specs.FrameCheck.{low_bits}
use Rattle.x25_bits.specs.code.Fits.{ones_from}
use Rattle.x25_bits.specs.code.Held.{up, keeps}
use Rattle.x25_bits.specs.declared.passing.Passed.{Passed}

-- Whether these bits are such, where `run` 1 bits came before: behind six of them the next bit ends a flag or is the
-- seventh.
unfoldable pub passes : ℕ → List Bool → Bool
passes run [] = true
passes run (b ∷ bits) = if run == 6 then false else passes (up run b) bits

-- those of the bits that are kept
unfoldable pub kept_from : ℕ → List Bool → List Bool
kept_from run [] = []
kept_from run (b ∷ bits) = if keeps run b then b ∷ kept_from (up run b) bits else kept_from (up run b) bits

-- whether the last 0 is an inserted one, where that was `last` before these bits
unfoldable pub inserted_after : ℕ → Bool → List Bool → Bool
inserted_after run last [] = last
inserted_after run last (b ∷ bits) = inserted_after (up run b) (if b then last else run == 5) bits

-- what these bits leave, where `run` 1 bits came before
pub record Passes (p : Passed) (run : ℕ) (last : Bool) (bits : List Bool) : Type 0 where
  pub quiet : passes run bits ≡ true
  pub kept : low_bits p.count p.kept ≡ kept_from run bits
  pub ones : p.run ≡ ones_from run bits
  pub inserted : p.is_inserted ≡ inserted_after run last bits

-- no flag ends in these bits and no seventh 1 bit comes; behind them stand n 1 bits, and the last 0 is an inserted one
-- or not
pub record PassesOn (n : ℕ) (is_inserted : Bool) (run : ℕ) (last : Bool) (bits : List Bool) : Type 0 where
  pub quiet : passes run bits ≡ true
  pub ones : n ≡ ones_from run bits
  pub inserted : is_inserted ≡ inserted_after run last bits
