-- What a deframer holds of the bits so far. Profile.
use Rattle.std.specs.Prelude.{ℕ, ◌≡◌, ◌+◌, ◌==◌, Bool, true, false, Option, Some, None, List, [], ◌∷◌, drop, take}
use Rattle.x25_bits.specs.Deframer.{flag_places}
use Rattle.x25_bits.specs.Stuffing.{unstuff}
use Rattle.x25_bits.specs.Found.{seven_from}
use Rattle.x25_bits.specs.code.Held.{up}
use Rattle.x25_bits.specs.declared.deframer.Deframer.{Deframer}

-- the 1 bits at the end, where `run` of them came before; seven stand for more
unfoldable pub ones_from : ℕ → List Bool → ℕ
ones_from run [] = run
ones_from run (b ∷ bits) = ones_from (up run b) bits

-- the last 0 stands behind five 1 bits, where `run` of them came before
unfoldable pub inserted_from : ℕ → Bool → List Bool → Bool
inserted_from run last [] = last
inserted_from run last (false ∷ bits) = inserted_from 0 (run == 5) bits
inserted_from run last (true ∷ bits) = inserted_from (run + 1) last bits

-- the bits behind the last of these flags
unfoldable pub behind_last : List Bool → List ℕ → Option (List Bool)
behind_last bits [] = None
behind_last bits (i ∷ []) = Some (drop (i + 8) bits)
behind_last bits (i ∷ j ∷ places) = behind_last bits (j ∷ places)

-- the bits of the span that no flag has closed so far
abbrev pub open_span : List Bool → Option (List Bool)
open_span bits = behind_last bits (flag_places bits)

-- of these bits behind a flag: seven 1 bits in a row, or else an inserted last 0 and the first unstuffed bits, one
-- more than the longest content and the first six bits of a flag
pub record HoldsSpan (d : Deframer) (span : List Bool) : Type 0 where
  pub is_open : d.scan.is_open ≡ true
  pub aborted : d.scan.is_aborted ≡ seven_from 0 span
  pub inserted : seven_from 0 span ≡ false → d.scan.is_inserted ≡ inserted_from 0 false span
  pub kept : seven_from 0 span ≡ false → d.kept ≡ take 32831 (unstuff span)

abbrev pub HoldsOpen : Deframer → Option (List Bool) → Type 0
HoldsOpen d None = d.scan.is_open ≡ false
HoldsOpen d (Some span) = HoldsSpan d span

-- The deframer holds all that the classes of the spans still to be closed need of these bits: the 1 bits at the end
-- (seven where no 0 has come), and what the open span needs.
pub record Fits (d : Deframer) (bits : List Bool) : Type 0 where
  pub run : d.scan.run ≡ ones_from 7 bits
  pub span : HoldsOpen d (open_span bits)
