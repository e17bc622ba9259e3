use Rattle.std.specs.Prelude.{◌≡◌, List}
use Rattle.x25_world.proofs.{HealingSchedule.{Delivered}, Names.{Cfg, World, AtEnd, most_times, Tells, telling}}
use Rattle.x25_world.proofs.world.World.deliver_all.Given as goal

-- so many of the deliveries have happened
abbrev pub invariant-loop-count : goal.invariant-loop-count
invariant-loop-count l = (l.count ≡ 0 → l.self ≡ l.initial.self)
    × ((cfg : Cfg) (w : World) (before : List AtEnd) → Tells cfg (telling l.initial.self l.initial.told.items) w before
    → Delivered cfg most_times w (telling l.self l.told.items) before l.count)
