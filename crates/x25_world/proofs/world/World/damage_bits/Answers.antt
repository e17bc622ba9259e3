use Rattle.x25_world.proofs.WorldLemmas.{run_and_then, claims_hold}
use Rattle.x25_world.proofs.world.World.damage_bits.Goals as goal

pub returns-clause-claims : goal.returns-clause-claims
returns-clause-claims c =
    let called = c.damage_by.ensures in
    claims_hold c.runs_hold.ensures.runs c.args.self.now c.damage_by.new.self _
    (λ cfg from past h. run_and_then _ _ c.damage_by.result h tt (called.step cfg) (called.accepted cfg) (called.stays cfg))
