use Rattle.std.proofs.Common.{◌≡◌, ◌++◌, None, replicate, vec_capacity}
use Rattle.x25_packet_judge.proofs.channels.pad.Given as goal

abbrev pub invariant-loop : goal.invariant-loop
invariant-loop l = (l.seen.items ≡ l.fn.seen.items ++ replicate l.counter None) × (vec_capacity l.seen ≡ 4096)
