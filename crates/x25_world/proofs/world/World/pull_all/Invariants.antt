use Rattle.x25_world.proofs.Names.{List, ◌≡◌, ◌-◌, ◌+◌, ◌*◌, ◌≤◌, false, is_none, Cfg, World, AtEnd, next_end, pull_rounds, most_times, Tells, telling}
use Rattle.x25_world.proofs.HealingSchedule.{Begun}
use Rattle.x25_world.proofs.world.World.pull_all.Given as goal

-- The rounds that are left. Each but the first began with a frame on the line, and so does the next.
abbrev pub invariant-loop : goal.invariant-loop
invariant-loop l = (l.count ≤ l.counter * most_times)
    × (l.counter ≤ l.count + 1)
    × (1 ≤ l.counter → is_none (next_end l.self.to_dce l.self.to_dte) ≡ false)
    × ((cfg : Cfg) (w : World) (before : List AtEnd) → Tells cfg (telling l.initial.self l.initial.told.items) w before
    → Begun cfg (pull_rounds cfg most_times most_times w) w (telling l.self l.told.items) before (pull_rounds cfg most_times (most_times - l.counter))
    l.count)
