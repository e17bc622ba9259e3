use Rattle.x25_world.proofs.WorldLemmas.{put_last, run_and_then, claims_hold}
use Rattle.x25_world.proofs.world.World.step.Goals as goal

pub returns-clause-put : goal.returns-clause-put
returns-clause-put c = λ cfg w fits. put_last c.happen.new.self _ c.happen.result fits (c.happen.ensures.acted cfg w fits).happened

pub returns-clause-claims : goal.returns-clause-claims
returns-clause-claims c =
    let called = c.happen.ensures in
    claims_hold c.runs_hold.ensures.runs c.args.self.now c.happen.new.self _
    (λ cfg from past h. run_and_then _ _ c.happen.result h c.hands_down_octets.ensures
    (λ w fits. (called.acted cfg w fits).happened) (λ w fits. (called.acted cfg w fits).accepted) (λ w fits. (called.acted cfg w fits).stays))
