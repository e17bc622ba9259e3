use Rattle.x25_link.proofs.{FitsLemmas.{said, made_more}, Names.{sym, true, false, rr, sends, with_near, FitsSide}}
use Rattle.x25_link.proofs.station.LinkStation.ready.Goals as goal

pub returns-then-is_busy-clause-step : goal.returns-then-is_busy-clause-step
returns-then-is_busy-clause-step c = λ d before t fits.
    let busy = c.if-is_busy.ensures d t.near fits.near in
    let number = c.wanted-nr.ensures.state _ fits.near.taken in
    let sent = c.send.ensures.step d before (with_near t (record t.near { said_busy = true }))
    (record { near = said d _ t.near true fits.near; out = fits.out }) in
    rw (sym busy) (rw number at sent)

pub returns-else-is_busy-clause-step : goal.returns-else-is_busy-clause-step
returns-else-is_busy-clause-step c = λ d before t fits.
    let busy = c.if-is_busy.ensures d t.near fits.near in
    let number = c.wanted-nr.ensures.state _ fits.near.taken in
    let frame = rr c.args.command c.wanted-nr.result.number c.args.pf in
    let sent : FitsSide d _ before c.push.new.self (sends frame (with_near t (record t.near { said_busy = false }))) = record {
      near = said d _ t.near false fits.near;
      out = made_more d c.args.self.now.role before c.args.out.now c.push.new.self t.out frame fits.near.role fits.out c.push.ensures;
    } in
    rw (sym busy) (rw number at sent)
