use Rattle.x25_line.proofs.{HealingOnce.{rest_shows}, SessionsHeal.{each_rest_shows}}
use Rattle.x25_line.proofs.healing.rest_shows.Goals as goal

pub returns : goal.returns
returns c =
    let below = c.laws_below.ensures in
    record { once = rest_shows below.reads below.healing below.busy; sessions = each_rest_shows below.reads below.healing }
