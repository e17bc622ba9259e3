use Rattle.x25_world.proofs.SideLemmas.{line_changes, line_stays, loses_or_not, damages_or_not}
use Rattle.x25_world.proofs.acting.act.Goals as goal

pub returns-in-Lose-clause-acted : goal.returns-in-Lose-clause-acted
returns-in-Lose-clause-acted c = λ cfg w side.
    let called = c.lose.ensures in
    rw (c.in-Lose.is, c.reuse.ensures.empty.entries) (record {
      happened = line_changes _ c.lose.result _ side (called.happened w side.back) called.only;
      refused = loses_or_not c.lose.result _ (called.refused w side.back);
      stays = line_stays _ c.lose.result side called.unchanged;
    })

pub returns-in-Damage-clause-acted : goal.returns-in-Damage-clause-acted
returns-in-Damage-clause-acted c = λ cfg w side.
    let called = c.damage.ensures in
    rw (c.in-Damage.is, c.reuse-in-Damage.ensures.empty.entries) (record {
      happened = line_changes _ c.damage.result _ side (called.happened w side.back) called.only;
      refused = damages_or_not c.damage.result _ (called.refused w side.back);
      stays = line_stays _ c.damage.result side called.unchanged;
    })

pub returns-in-Command-clause-acted : goal.returns-in-Command-clause-acted
returns-in-Command-clause-acted c = λ cfg w old. rw c.in-Command.is (c.command.ensures.acted cfg w old)

pub returns-in-Deliver-clause-acted : goal.returns-in-Deliver-clause-acted
returns-in-Deliver-clause-acted c = λ cfg w old. rw c.in-Deliver.is (c.deliver.ensures.acted cfg w old)

pub returns-in-T1-clause-acted : goal.returns-in-T1-clause-acted
returns-in-T1-clause-acted c = λ cfg w old. rw c.in-T1.is (c.fire.ensures.acted cfg w old)
