use Rattle.std.proofs.Common.{◌≡◌, vec_len, vec_capacity}
use Rattle.x25_bits.proofs.kept.blank_octets.Given as goal

abbrev pub invariant-loop-place : goal.invariant-loop-place
invariant-loop-place l = (vec_len l.octets ≡ l._place) × (vec_capacity l.octets ≡ 4104)
