use Rattle.x25_link.proofs.{AckedLemmas.{none_left}, LinkLemmas.{hears_up}, Names.{sym, refl, ◌∙◌, ua, sends}}
use Rattle.x25_link.proofs.station.LinkStation.hear.Goals as goal

pub returns-in-Sabm-clause-step : goal.returns-in-Sabm-clause-step
returns-in-Sabm-clause-step c = λ d before t fits.
    let row = hears_up d _ _ c.args.octets.now t _ fits.near (sym c.if-not-is_up.ensures) c.other.ensures c.in-Ok.ensures.exact in
    rw (row, c.in-Sabm.is) (record {
      side = c.set_up.ensures.step d before _ (sends (ua c.in-Sabm.p) t) (c.send.ensures.step d before t fits);
      packet = rw c.noted.ensures.packet refl;
      notes = c.noted.ensures.notes;
      acknowledged = c.noted.ensures.acknowledged ∙ none_left t.near.outgoing.acked;
    })

pub returns-in-Disc-clause-step : goal.returns-in-Disc-clause-step
returns-in-Disc-clause-step c = λ d before t fits.
    let row = hears_up d _ _ c.args.octets.now t _ fits.near (sym c.if-not-is_up.ensures) c.other.ensures c.in-Ok.ensures.exact in
    rw (row, c.in-Disc.is) (c.leave.ensures.step d before _ (sends (ua c.in-Disc.p) t) (c.send-in-Disc.ensures.step d before t fits))

pub returns-in-Dm-clause-step : goal.returns-in-Dm-clause-step
returns-in-Dm-clause-step c = λ d before t fits.
    let row = hears_up d _ _ c.args.octets.now t _ fits.near (sym c.if-not-is_up.ensures) c.other.ensures c.in-Ok.ensures.exact in
    rw (row, c.in-Dm.is) (c.leave-in-Dm.ensures.step d before _ t fits)

pub returns-in-Frmr-clause-step : goal.returns-in-Frmr-clause-step
returns-in-Frmr-clause-step c = λ d before t fits.
    let row = hears_up d _ _ c.args.octets.now t _ fits.near (sym c.if-not-is_up.ensures) c.other.ensures c.in-Ok.ensures.exact in
    rw (row, c.in-Frmr.is) (c.leave-in-Frmr.ensures.step d before _ t fits)
