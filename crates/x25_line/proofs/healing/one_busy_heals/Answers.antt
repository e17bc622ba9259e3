use Rattle.x25_line.proofs.{HealingOnce.{heals_unless_both_busy}, SessionsHeal.{sessions_heal_unless_both_busy}, rows.HealingRowLemmas.{one_busy_is_reached}}
use Rattle.x25_line.proofs.healing.one_busy_heals.Goals as goal

pub returns : goal.returns
returns c =
    let below = c.laws_below.ensures in
    record {
      whatever = heals_unless_both_busy below.reads below.healing below.busy;
      each_session = sessions_heal_unless_both_busy below.reads below.healing below.busy;
      reached = one_busy_is_reached;
    }
