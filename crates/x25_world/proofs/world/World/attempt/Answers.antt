use Rattle.x25_world.proofs.{HealingSchedule.{accepts_one, leaves_out, stops_now}, Names.{event_of, if_accepted}}
use Rattle.x25_world.proofs.world.World.attempt.Goals as goal

pub returns-clause-goes : goal.returns-clause-goes
returns-clause-goes c = λ cfg w before fits.
    accepts_one (event_of c.args.event) w (c.in_default.ensures.step cfg w before fits) (c.in_default.ensures.accepted cfg w fits.fits)

pub returns-in-Err-clause-goes : goal.returns-in-Err-clause-goes
returns-in-Err-clause-goes c = λ cfg w before fits.
    leaves_out (event_of c.args.event) c.unless_memory.result c.unless_memory.ensures.other (c.in-Err.ensures.refused cfg w fits.fits)
    (c.in-Err.ensures.stays cfg w before fits)

pub returns-in-Err-clause-stopped : goal.returns-in-Err-clause-stopped
returns-in-Err-clause-stopped c = λ cfg w before fits.
    stops_now (if_accepted cfg (event_of c.args.event) w) c.unless_memory.result c.unless_memory.ensures.memory (c.in-Err.ensures.stays cfg w before fits)
