use Rattle.x25_link.proofs.Names.{◌≡◌, true, sym, ◌∙◌}
use Rattle.x25_link.proofs.station.LinkStation.hear_closed.Goals as goal

pub returns-in-Ua-true-clause-step : goal.returns-in-Ua-true-clause-step
returns-in-Ua-true-clause-step c = λ d before t fits.
    let final : c.in-Ua-true.f ≡ true = sym c.in-Ua-true.f-is ∙ c.in-Ua-true.f-test in
    rw (c.in-Ua-true.is, final) (c.end_closing.ensures.step d before _ t fits)

pub returns-in-Dm-true-clause-step : goal.returns-in-Dm-true-clause-step
returns-in-Dm-true-clause-step c = λ d before t fits.
    let final : c.in-Dm-true.f ≡ true = sym c.in-Dm-true.f-is ∙ c.in-Dm-true.f-test in
    rw (c.in-Dm-true.is, final) (c.end_closing-in-Dm-true.ensures.step d before _ t fits)
