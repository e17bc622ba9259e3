use Rattle.x25_link.proofs.{AckedLemmas.{none_left}, Names.{refl, ◌∙◌, ua, sends}}
use Rattle.x25_link.proofs.station.LinkStation.hear_down.Goals as goal

pub returns-in-Sabm-clause-step : goal.returns-in-Sabm-clause-step
returns-in-Sabm-clause-step c = λ d before t fits.
    rw c.in-Sabm.is (record {
      side = c.set_up.ensures.step d before _ (sends (ua c.in-Sabm.p) t) (c.send.ensures.step d before t fits);
      packet = rw c.noted.ensures.packet refl;
      notes = c.noted.ensures.notes;
      acknowledged = c.noted.ensures.acknowledged ∙ none_left t.near.outgoing.acked;
    })
