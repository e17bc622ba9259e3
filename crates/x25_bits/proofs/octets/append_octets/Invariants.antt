use Rattle.std.proofs.Common.{◌≡◌, ◌+◌, ◌++◌, take, vec_len, vec_capacity}
use Rattle.x25_bits.proofs.octets.append_octets.Given as goal

-- the octets so far are appended
abbrev pub invariant-loop-octet : goal.invariant-loop-octet
invariant-loop-octet l = record {
  items : l.all.items ≡ l.initial.all.items ++ take l.octet-index l.more;
  len : vec_len l.all ≡ vec_len l.initial.all + l.octet-index;
  capacity : vec_capacity l.all ≡ vec_capacity l.initial.all;
}
