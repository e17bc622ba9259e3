use Rattle.std.proofs.Common.{◌≡◌, [], replicate, vec_capacity}
use Rattle.x25_judge.proofs.held.fill_up.Given as goal

abbrev pub invariant-loop : goal.invariant-loop
invariant-loop l = (l.slots.items ≡ replicate l.counter []) × (vec_capacity l.slots ≡ vec_capacity l.fn.slots)
