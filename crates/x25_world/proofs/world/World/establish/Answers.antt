use Rattle.x25_world.proofs.{Names.{[], inr, refl, established, ClaimsOfNew, IsUpOnce}, WorldLemmas.{made_world, once_at_most}}
use Rattle.x25_world.proofs.world.World.establish.Goals as goal

pub returns-clause-claims : goal.returns-clause-claims
returns-clause-claims c =
    let cfg = c.args.cfg in
    made_world cfg (established cfg) (ClaimsOfNew cfg (established cfg)) c.up.result c.up.ensures.refused c.up.ensures.fits
    (λ v h. let holds = c.runs_hold.ensures.runs cfg (established cfg) v [] (inr (inr refl)) h in
    record { once = once_at_most cfg (established cfg) (holds.up_once refl tt); holds = holds })

pub returns-clause-up_once : goal.returns-clause-up_once
returns-clause-up_once c =
    let cfg = c.args.cfg in
    made_world cfg (established cfg) (λ v. IsUpOnce cfg (established cfg)) c.up.result c.up.ensures.refused c.up.ensures.fits
    (λ v h. (c.runs_hold.ensures.runs cfg (established cfg) v [] (inr (inr refl)) h).up_once refl tt)
