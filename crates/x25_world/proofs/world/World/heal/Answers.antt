use Rattle.x25_world.proofs.Names.{sym, subst, arith, run, healing, RestShows, ArrivesByHealing, RestShowsAll, SessionsKeepOrder, most_times, telling}
use Rattle.x25_world.proofs.{HealingRounds.{holds_healed}, HealingSchedule.{tells_nothing}}
use Rattle.x25_world.proofs.WorldLemmas.{run_append}
use Rattle.x25_world.proofs.world.World.heal.Goals as goal

pub returns-in-Ok-clause-goes : goal.returns-in-Ok-clause-goes
returns-in-Ok-clause-goes c = λ cfg w fits. c.in-Ok.ensures.goes cfg w w.transcript (tells_nothing _ c.clear.ensures.items fits)

pub returns-in-Ok-clause-counted : goal.returns-in-Ok-clause-counted
returns-in-Ok-clause-counted c = λ cfg w fits. c.in-Ok.ensures.counted cfg w w.transcript (tells_nothing _ c.clear.ensures.items fits)

pub returns-in-Ok-clause-sessions : goal.returns-in-Ok-clause-sessions
returns-in-Ok-clause-sessions c = λ cfg from past begins h.
    let w = run cfg past from in
    holds_healed (λ c' w u. SessionsKeepOrder c' u) (telling c.go_on.new.self c.go_on.new.told.items) most_times w.transcript h
    (c.in-Ok.ensures.goes cfg w w.transcript (tells_nothing _ c.clear.ensures.items h.fits))
    (λ octets. c.runs_hold.ensures.sessions cfg h.settings from begins _ octets)

pub returns-in-Ok-clause-rest : goal.returns-in-Ok-clause-rest
returns-in-Ok-clause-rest c = λ cfg from past begins h.
    let w = run cfg past from in
    holds_healed (λ c' w u. RestShows c' u) (telling c.go_on.new.self c.go_on.new.told.items) most_times w.transcript h
    (c.in-Ok.ensures.goes cfg w w.transcript (tells_nothing _ c.clear.ensures.items h.fits))
    (λ octets. c.stations_heal.ensures.rest cfg h.settings from begins _ octets)

pub returns-in-Ok-clause-shows : goal.returns-in-Ok-clause-shows
returns-in-Ok-clause-shows c = λ cfg from past begins h.
    let w = run cfg past from in
    holds_healed (λ c' w u. RestShowsAll c' u) (telling c.go_on.new.self c.go_on.new.told.items) most_times w.transcript h
    (c.in-Ok.ensures.goes cfg w w.transcript (tells_nothing _ c.clear.ensures.items h.fits))
    (λ octets. subst (RestShowsAll cfg) (sym (run_append cfg past (healing cfg most_times w) from))
    (c.healing_brings_all.ensures.shows cfg h.settings from begins past h.octets most_times (omega arith)))

pub returns-in-Ok-clause-arrives : goal.returns-in-Ok-clause-arrives
returns-in-Ok-clause-arrives c = λ cfg from past begins h.
    let w = run cfg past from in
    holds_healed (λ c' w u. ArrivesByHealing c' most_times w u) (telling c.go_on.new.self c.go_on.new.told.items) most_times w.transcript h
    (c.in-Ok.ensures.goes cfg w w.transcript (tells_nothing _ c.clear.ensures.items h.fits))
    (λ octets. subst (ArrivesByHealing cfg most_times w) (sym (run_append cfg past (healing cfg most_times w) from))
    (c.healing_brings_all.ensures.arrives cfg h.settings from begins past h.octets most_times (omega arith)))

pub returns-in-Err-clause-stopped : goal.returns-in-Err-clause-stopped
returns-in-Err-clause-stopped c = λ cfg w fits. c.in-Err.ensures.stopped cfg w w.transcript (tells_nothing _ c.clear.ensures.items fits)
