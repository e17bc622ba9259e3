use Rattle.std.proofs.Common.{◌≡◌, ◌-◌, ◌^◌, ◌<◌, take, drop}
use Rattle.x25_bits.specs.FrameCheck.{number_of}
use Rattle.x25_bit_line.proofs.line_bits.octet_at.Given as goal

-- the number of the last bits
abbrev pub invariant-loop-behind : goal.invariant-loop-behind
invariant-loop-behind l = (l.octet ≡ number_of (drop (8 - l.behind) (take 8 (drop l.place l.bits)))) × (l.octet < 2 ^ l.behind)
