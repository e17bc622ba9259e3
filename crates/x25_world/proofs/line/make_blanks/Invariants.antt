use Rattle.x25_world.proofs.Names.{◌≤◌, ◌-◌}
use Rattle.std.proofs.Common.{vec_len, vec_capacity}
use Rattle.x25_world.proofs.line.make_blanks.Given as goal

abbrev pub invariant-loop-alloc : goal.invariant-loop-alloc
invariant-loop-alloc l = record {
  no_fewer : vec_len l.initial.blanks ≤ vec_len l.blanks;
  room : 30 ≤ vec_capacity l.blanks;
  few : vec_capacity l.blanks ≤ 30;
}

abbrev pub decreases-loop-alloc : goal.decreases-loop-alloc
decreases-loop-alloc l = 30 - vec_len l.blanks
