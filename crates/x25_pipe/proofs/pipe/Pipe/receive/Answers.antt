use Rattle.std.proofs.Common.{take, refl}
use Rattle.x25_station.specs.laws.TimerLaw.{Comes, outcome}
use Rattle.x25_pipe.specs.Pipe.{event_act}
use Rattle.x25_pipe.proofs.StandLemmas.{is_step_of}
use Rattle.x25_pipe.proofs.pipe.Pipe.receive.Goals as goal

pub returns-clause-acts : goal.returns-clause-acts
unfolding event_act
returns-clause-acts g c = λ k old s told refused h.
    let event = Comes (take c.args.count c.args.self.now.octets) in
    c.follow_up.ensures.acted k old s event (outcome k s event) told refused (is_step_of tt _ _ c.receive.new.out _ k s c.receive.ensures.does h.fits)
    (c.receive.ensures.timer k s h.fits) refl h.role h.tells h.status
