use Rattle.x25_link.proofs.{AckedLemmas.{none_left}, Names.{◌≡◌, true, sym, ◌∙◌, refl}}
use Rattle.x25_link.proofs.station.LinkStation.hear_waiting.Goals as goal

pub returns-in-Ua-true-clause-step : goal.returns-in-Ua-true-clause-step
returns-in-Ua-true-clause-step c = λ d before t fits.
    let final : c.in-Ua-true.f ≡ true = sym c.in-Ua-true.f-is ∙ c.in-Ua-true.f-test in
    rw (c.in-Ua-true.is, final) (record {
      side = c.set_up.ensures.step d before _ t fits;
      packet = rw c.noted.ensures.packet refl;
      notes = c.noted.ensures.notes;
      acknowledged = c.noted.ensures.acknowledged ∙ none_left t.near.outgoing.acked;
    })
