use Rattle.x25_world.proofs.{Names.{[], inl, inr, refl, connected, ClaimsOfNew}, WorldLemmas.{made_world, connected_up}}
use Rattle.x25_world.proofs.world.World.connecting.Goals as goal

pub returns-clause-claims : goal.returns-clause-claims
returns-clause-claims c =
    let cfg = c.args.cfg in
    made_world cfg (connected cfg) (ClaimsOfNew cfg (connected cfg)) c.asking.result c.asking.ensures.refused c.asking.ensures.fits
    (λ v h. record { once = connected_up cfg; holds = c.runs_hold.ensures.runs cfg (connected cfg) v [] (inr (inl refl)) h })
