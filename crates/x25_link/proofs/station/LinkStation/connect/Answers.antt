use Rattle.x25_link.proofs.{FitsLemmas.{phase_fits}, Names.{Waiting, with_near}}
use Rattle.x25_link.proofs.station.LinkStation.connect.Goals as goal

pub returns-clause-step : goal.returns-clause-step
returns-clause-step c = λ d before t fits.
    c.send.ensures.step d before (with_near t (record t.near { phase = Waiting; tries = 0 }))
    (record { near = phase_fits d _ t.near Waiting 0 fits.near; out = fits.out })
