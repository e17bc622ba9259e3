use Rattle.x25_link.proofs.{FitsLemmas.{recovery_fits}, Names.{◌≡◌, sym, ◌∙◌, subst, true, Phase, Up, FitsSide, with_near, asks_again}}
use Rattle.x25_link.proofs.station.LinkStation.ask_again.Goals as goal

pub returns-in-Up-clause-step : goal.returns-in-Up-clause-step
returns-in-Up-clause-step c = λ d before t fits.
    let up : t.near.phase ≡ Up = sym fits.near.phase ∙ c.in-Up.is in
    subst (λ (p : Phase). FitsSide d c.ready.new.self before c.ready.new.out (asks_again p t)) (sym up)
    (c.ready.ensures.step d before (with_near t (record t.near { recovery = true }))
    (record { near = recovery_fits d _ t.near true fits.near; out = fits.out }))
