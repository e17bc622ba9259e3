-- Bits that are kept, in memory that was set aside.
use Rattle.std.proofs.Common.{ℕ, ◌≤◌, ◌≡◌, List, Bool, length, take, arith}
use Rattle.x25_bits.specs.FrameCheck.{bits_of}
use Rattle.x25_bits.proofs.OctetLemmas.{count_is}

-- as many bits as are seen
pub count_of : (count : ℕ) (octets : List ℕ) (bits : List Bool) → count ≤ 32832 → length octets ≡ 4104 → take count (bits_of octets) ≡ bits → count
    ≡ length bits
count_of count octets bits few room seen = count_is count octets bits (omega arith) seen
