use Rattle.std.proofs.Common.{◌≡◌, refl, false, subst}
use Rattle.x25_clock.specs.{Due.{event_for}, declared.due.Due.{Due}, laws.ClockLaw.{comes}}
use Rattle.x25_clock.specs.declared.due.Due.TheVariants as due
use Rattle.x25_station.specs.laws.TimerLaw.{outcome}
use Rattle.x25_pipe.specs.Pipe.{event_act}
use Rattle.x25_pipe.specs.code.Stands.{Acted}
use Rattle.x25_pipe.proofs.StandLemmas.{is_step_of}
use Rattle.x25_pipe.proofs.pipe.Pipe.insist.Goals as goal

-- no octets come
none_come : (d : Due) → false ≡ comes (event_for d)
none_come due.T1 = refl
none_come due.Probe = refl
none_come (due.Reset h) = refl
none_come (due.ResetUnacknowledged h) = refl
none_come (due.Clear h) = refl
none_come (due.Restart h) = refl
none_come due.Relink = refl

pub returns-in-Ok-clause-acts : goal.returns-in-Ok-clause-acts
unfolding event_act
returns-in-Ok-clause-acts g c = λ k old s told refused h.
    let asks = c.in-Ok.ensures in
    let event = event_for asks.asked in
    subst (λ (d : Due). Acted k old (g.W.Sink.contents c.follow_up.new.writer) c.follow_up.new.self told refused c.follow_up.result
    (event_act k s (event_for d))) (asks.is k s h.fits)
    (c.follow_up.ensures.acted k old s event (outcome k s event) told refused
    (is_step_of c.in-Ok.field-0 _ _ c.ask.new.step _ k s asks.done.does h.fits) (asks.done.timer k s h.fits) (none_come asks.asked) h.role h.tells h.status)

pub returns-in-Err-clause-acts : goal.returns-in-Err-clause-acts
unfolding event_act
returns-in-Err-clause-acts g c = λ k old s told refused h.
    let asks = c.in-Err.ensures in
    let event = event_for asks.asked in
    subst (λ (d : Due). Acted k old (g.W.Sink.contents c.refuse.new.writer) c.refuse.new.self told refused c.refuse.result (event_act k s (event_for d)))
    (asks.is k s h.fits)
    (c.refuse.ensures.acted k old s event (outcome k s event) told refused
    (record { fits = asks.done.does.stays k s h.fits; role = h.role; tells = h.tells; status = h.status }) (none_come asks.asked)
    (asks.done.does.refused k s h.fits))
