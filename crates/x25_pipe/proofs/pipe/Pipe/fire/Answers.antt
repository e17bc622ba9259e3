use Rattle.std.proofs.Common.{refl}
use Rattle.x25_station.specs.laws.TimerLaw.{Fires, outcome}
use Rattle.x25_pipe.specs.Pipe.{event_act}
use Rattle.x25_pipe.proofs.StandLemmas.{is_step_of}
use Rattle.x25_pipe.proofs.pipe.Pipe.fire.Goals as goal

pub returns-in-Ok-clause-acts : goal.returns-in-Ok-clause-acts
unfolding event_act
returns-in-Ok-clause-acts g c = λ k old s told refused h.
    c.follow_up.ensures.acted k old s Fires (outcome k s Fires) told refused (is_step_of c.in-Ok.field-0 _ _ c.t1.new.out _ k s c.in-Ok.ensures.does h.fits)
    (c.in-Ok.ensures.timer k s h.fits) refl h.role h.tells h.status

pub returns-in-Err-clause-acts : goal.returns-in-Err-clause-acts
unfolding event_act
returns-in-Err-clause-acts g c = λ k old s told refused h.
    c.refuse.ensures.acted k old s Fires (outcome k s Fires) told refused
    (record { fits = c.in-Err.ensures.does.stays k s h.fits; role = h.role; tells = h.tells; status = h.status }) refl
    (c.in-Err.ensures.does.refused k s h.fits)
