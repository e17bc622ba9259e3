use Rattle.x25_clock.proofs.WaitLemmas.{nothing_waits}
use Rattle.x25_clock.proofs.law.nothing_waits_for_ever.Goals as goal

pub returns : goal.returns
returns c =
    let laws = c.ways_out_lead_on.ensures in
    let keeps = c.steps_keep_bounds.ensures in
    nothing_waits laws.reset laws.clear laws.restart laws.relink laws.back
    (record { receive = keeps.receive; command = keeps.command; timer = keeps.timer })
