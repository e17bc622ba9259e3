use Rattle.x25_world.proofs.WorldLemmas.{refused_later}
use Rattle.x25_world.proofs.world.World.up.Goals as goal

pub returns-in-Ok-clause-fits : goal.returns-in-Ok-clause-fits
returns-in-Ok-clause-fits c = c.in-Ok.ensures.fits c.args.cfg c.in_ok-world.ensures.fits

pub returns-in-Err-clause-refused : goal.returns-in-Err-clause-refused
returns-in-Err-clause-refused c = refused_later _ _ c.in_ok-world.world c.in-Err.error c.in_ok-world.ensures.refused
    (c.in-Err.ensures.refused c.args.cfg c.in_ok-world.ensures.fits)
