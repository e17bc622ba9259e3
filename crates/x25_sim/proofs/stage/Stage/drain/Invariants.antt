use Rattle.std.proofs.Common.{◌≡◌, ◌-◌, ℕ, Bool, List, Option}
use Rattle.x25_station.specs.declared.config.Cfg.{Cfg}
use Rattle.x25_world.specs.World.{World}
use Rattle.x25_sim.specs.declared.stage.Shown.{Shown}
use Rattle.x25_sim.specs.Stage.{drained}
use Rattle.x25_sim.specs.code.Stands.{Stands}
use Rattle.x25_sim.specs.code.Leaves.{Leaves}
use Rattle.x25_sim.proofs.stage.Stage.drain.Given as goal

-- the deliveries that are left
abbrev pub invariant-loop : goal.invariant-loop
invariant-loop g l = (g.W.Sink.is_marked l.writer ≡ g.W.Sink.is_marked l.fn.writer)
    × ((cfg : Cfg) (shown : Shown) (old : Option (List ℕ)) (w : World) (told : List ℕ) (refused : Bool)
    → Stands cfg shown old (g.W.Sink.contents l.fn.writer) l.fn.self w told refused
    → Leaves cfg shown old (g.W.Sink.contents l.writer) l.self (drained cfg shown (l.fn.count - l.counter)) told refused (drained cfg shown l.fn.count w))
