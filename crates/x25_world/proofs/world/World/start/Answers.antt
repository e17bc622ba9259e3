use Rattle.x25_world.proofs.{Names.{[], inl, refl, start, ClaimsOfNew}, WorldLemmas.{made_world, start_up}}
use Rattle.x25_world.proofs.world.World.start.Goals as goal

pub returns-clause-claims : goal.returns-clause-claims
returns-clause-claims c =
    let cfg = c.args.cfg in
    made_world cfg start (ClaimsOfNew cfg start) c.down.result c.down.ensures.refused c.down.ensures.fits
    (λ v h. record { once = start_up cfg; holds = c.runs_hold.ensures.runs cfg start v [] (inl refl) h })
