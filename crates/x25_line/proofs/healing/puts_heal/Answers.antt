use Rattle.x25_line.proofs.{HealingOnce.{puts_heal}, SessionsHeal.{puts_heal_sessions}}
use Rattle.x25_line.proofs.healing.puts_heal.Goals as goal

pub returns : goal.returns
returns c =
    let below = c.laws_below.ensures in
    record { at_once = puts_heal below.reads below.healing below.busy; sessions = puts_heal_sessions below.reads below.healing below.busy }
