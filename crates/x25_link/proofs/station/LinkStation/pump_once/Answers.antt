use Rattle.x25_link.proofs.{FitsLemmas.{sends_fits, may_send_is}, Names.{sym, ap, ◌∙◌, is_up}}
use Rattle.x25_link.proofs.station.LinkStation.pump_once.Goals as goal

pub returns-clause-step : goal.returns-clause-step
returns-clause-step c = λ d before t fits.
    let k = d.window in
    let o = t.near.outgoing in
    let outgoing = fits.near.outgoing in
    let sent = c.send_next.ensures.sent k o outgoing
    ∙ sym (may_send_is k t.near (sym fits.near.recovery ∙ c.if-self.false) (sym fits.near.peer_busy ∙ c.if-self-2.false)
    (sym (ap is_up fits.near.phase) ∙ sym c.if-not-is_up.ensures)) in
    sends_fits d _ _ before _ _ t.near o t.out _ c.send_next.result fits.near fits.out (c.wanted-nr.ensures.state _ fits.near.taken) sent
    (c.send_next.ensures.step k o outgoing) (c.send_next.ensures.made k o outgoing)

pub returns-clause-sent : goal.returns-clause-sent
returns-clause-sent c = λ d s fits.
    c.send_next.ensures.sent d.window s.outgoing fits.outgoing
    ∙ sym (may_send_is d.window s (sym fits.recovery ∙ c.if-self.false) (sym fits.peer_busy ∙ c.if-self-2.false)
    (sym (ap is_up fits.phase) ∙ sym c.if-not-is_up.ensures))
