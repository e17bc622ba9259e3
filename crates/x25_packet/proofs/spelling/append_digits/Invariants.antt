use Rattle.std.proofs.Common.{◌≡◌, ◌+◌, ◌++◌, take, vec_len, vec_capacity}
use Rattle.x25_packet.specs.Digits.{packed}
use Rattle.x25_packet.proofs.spelling.append_digits.Given as goal

-- the octets of the pairs so far are appended
abbrev pub invariant-loop-pair : goal.invariant-loop-pair
invariant-loop-pair l = (l.octets.items ≡ l.initial.octets.items ++ take l.pair (packed (l.called ++ l.calling)))
    × (vec_len l.octets ≡ vec_len l.initial.octets + l.pair) × (vec_capacity l.octets ≡ vec_capacity l.initial.octets)
