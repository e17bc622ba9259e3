use Rattle.x25_link.proofs.{FitsLemmas.{rejecting}, Names.{sym, ◌∙◌, true, with_near}}
use Rattle.x25_link.proofs.station.LinkStation.pass_over.Goals as goal

pub returns-then-not-self-clause-step : goal.returns-then-not-self-clause-step
returns-then-not-self-clause-step c = λ d before t fits.
    let busy = c.if-is_busy.ensures d t.near fits.near in
    let stands = sym fits.near.rejecting ∙ c.if-not-self.true in
    let number = c.wanted-nr.ensures.state _ fits.near.taken in
    let sent = c.send.ensures.step d before (with_near t (record t.near { rejecting = true }))
    (record { near = rejecting d _ t.near true fits.near; out = fits.out }) in
    rw (sym busy, stands) (rw number at sent)
