use Rattle.std.proofs.Common.{◌≡◌, replicate, vec_capacity}
use Rattle.x25_judge.specs.Counts.{none}
use Rattle.x25_judge.proofs.counts.fill_up.Given as goal

abbrev pub invariant-loop : goal.invariant-loop
invariant-loop l = (l.counts.items ≡ replicate l.counter none) × (vec_capacity l.counts ≡ vec_capacity l.fn.counts)
