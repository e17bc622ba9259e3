use Rattle.std.proofs.Common.{◌≡◌, ◌*◌, ℕ, List, drop}
use Rattle.x25_bits.specs.FrameCheck.{low_bits, bits_of}
use Rattle.x25_bits.specs.code.Register.{fed, words_leave}
use Rattle.x25_bits.proofs.frame_check.through_blocks.Given as goal

-- what is left to feed leads to the same end
pub record Leads (a b c d start : ℕ) (left octets : List ℕ) : Type 0 where
  pub same : fed (words_leave a b c d) (bits_of left) ≡ fed (fed (low_bits 16 0) (low_bits 64 start)) (bits_of octets)

abbrev pub invariant-loop-block : goal.invariant-loop-block
invariant-loop-block l = Leads l.held.first l.held.second l.held.third l.held.fourth l.start (drop (32 * l.block) l.octets) l.octets
