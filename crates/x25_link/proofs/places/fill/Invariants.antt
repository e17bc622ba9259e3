use Rattle.x25_link.proofs.Names.{◌≡◌, vec_capacity}
use Rattle.std.proofs.Common.{vec_len}
use Rattle.x25_link.proofs.places.fill.Given as goal

abbrev pub invariant-loop-place : goal.invariant-loop-place
invariant-loop-place g l = record {
  count : vec_len l.places ≡ l._place;
  list : vec_capacity l.places ≡ vec_capacity l.initial.places;
}
