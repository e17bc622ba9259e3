use Rattle.std.proofs.Common.{◌≡◌, ◌*◌, ◌<◌, ℕ, List, drop}
use Rattle.x25_bits.specs.FrameCheck.{low_bits, bits_of}
use Rattle.x25_bits.specs.code.Register.{fed}
use Rattle.x25_bits.proofs.frame_check.through_words.Given as goal

-- what is left to feed leads to the same end
pub record Leads (held start : ℕ) (left octets : List ℕ) : Type 0 where
  pub fits : held < 18446744073709551616
  pub same : fed (fed (low_bits 16 0) (low_bits 64 held)) (bits_of left) ≡ fed (fed (low_bits 16 0) (low_bits 64 start)) (bits_of octets)

abbrev pub invariant-loop-eight : goal.invariant-loop-eight
invariant-loop-eight l = Leads l.held l.start (drop (8 * l.eight) l.octets) l.octets
