use Rattle.x25_clock.proofs.RotationLemmas.{windows_rotate}
use Rattle.x25_clock.proofs.law.windows_rotate.Goals as goal

pub returns : goal.returns
returns c =
    let laws = c.ways_out_lead_on.ensures in
    let keeps = c.steps_keep_bounds.ensures in
    windows_rotate laws.rotation laws.relink (record { receive = keeps.receive; command = keeps.command; timer = keeps.timer })
