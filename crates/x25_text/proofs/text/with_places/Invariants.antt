use Rattle.std.proofs.Common.{◌≡◌, ◌+◌, ◌++◌, replicate, vec_len, vec_capacity}
use Rattle.x25_text.proofs.text.with_places.Given as goal

abbrev pub invariant-loop-place : goal.invariant-loop-place
invariant-loop-place l = record {
  items : l.places.items ≡ l.initial.places.items ++ replicate l._place 0;
  len : vec_len l.places ≡ vec_len l.initial.places + l._place;
  capacity : vec_capacity l.places ≡ vec_capacity l.initial.places;
}
