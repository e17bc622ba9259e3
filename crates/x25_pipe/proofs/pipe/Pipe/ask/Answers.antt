use Rattle.std.proofs.Common.{subst, refl}
use Rattle.std.proofs.lemmas.Result.{err_from_is_err_and}
use Rattle.x25_station.specs.Command.{command_of}
use Rattle.x25_station.specs.laws.TimerLaw.{Asks, outcome}
use Rattle.x25_io.proofs.ToldLemmas.{told_more}
use Rattle.x25_pipe.specs.Pipe.{event_act}
use Rattle.x25_pipe.specs.code.Stands.{Acted}
use Rattle.x25_pipe.proofs.StandLemmas.{is_step_of}
use Rattle.x25_pipe.proofs.pipe.Pipe.ask.Goals as goal

pub returns-in_err-count-clause-acts : goal.returns-in_err-count-clause-acts
returns-in_err-count-clause-acts g c = λ k old s told refused h.
    let p = err_from_is_err_and c.from_residual.result c.from_residual.ensures.1 in
    rw p.1 (told_more _ _ _ told _ h.tells)

pub returns-in-Ok-clause-acts : goal.returns-in-Ok-clause-acts
unfolding event_act
returns-in-Ok-clause-acts g c = λ k old s told refused h.
    let event = Asks (command_of c.station_command-asked.result) in
    subst (λ asked. Acted k old (g.W.Sink.contents c.follow_up.new.writer) c.follow_up.new.self told refused c.follow_up.result (event_act k s (Asks asked)))
    c.station_command-asked.ensures
    (c.follow_up.ensures.acted k old s event (outcome k s event) told refused
    (is_step_of c.in-Ok.field-0 _ _ c.command.new.out _ k s c.in-Ok.ensures.does h.fits) (c.in-Ok.ensures.timer k s h.fits) refl h.role h.tells h.status)

pub returns-in-Err-clause-acts : goal.returns-in-Err-clause-acts
unfolding event_act
returns-in-Err-clause-acts g c = λ k old s told refused h.
    let event = Asks (command_of c.station_command-asked.result) in
    subst (λ asked. Acted k old (g.W.Sink.contents c.refuse.new.writer) c.refuse.new.self told refused c.refuse.result (event_act k s (Asks asked)))
    c.station_command-asked.ensures
    (c.refuse.ensures.acted k old s event (outcome k s event) told refused
    (record { fits = c.in-Err.ensures.does.stays k s h.fits; role = h.role; tells = h.tells; status = h.status }) refl
    (c.in-Err.ensures.does.refused k s h.fits))
