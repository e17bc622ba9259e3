use Rattle.x25_link.proofs.Names.{◌≡◌, length, vec_capacity}
use Rattle.std.specs.List.{All}
use Rattle.x25_link.proofs.frames.fill.Given as goal

abbrev pub invariant-loop-place : goal.invariant-loop-place
invariant-loop-place l = record {
  count : length l.places.items ≡ l._place;
  list : vec_capacity l.places ≡ vec_capacity l.initial.places;
  memory : All (λ v. vec_capacity v ≡ 4103) l.places.items;
}
