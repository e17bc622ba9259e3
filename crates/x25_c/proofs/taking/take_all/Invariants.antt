use Rattle.std.proofs.Common.{drop}
use Rattle.x25_c.{proofs.TakeLemmas.{AreTaken}, specs.Item.{event_at, items_of, octets_at}}
use Rattle.x25_c.proofs.taking.take_all.Given as goal

abbrev pub invariant-loop-place : goal.invariant-loop-place
invariant-loop-place l = AreTaken event_at octets_at (drop l.first (items_of l.held)) l.place l.filled l.initial.events l.events l.initial.room l.room
