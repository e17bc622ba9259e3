use Rattle.x25_link.proofs.{AckedLemmas.{none_left}, Names.{◌≡◌, Some, None, if◌then◌else◌, sym, ap, ◌∙◌, refl, Local, is_up, with_near, disconnected}}
use Rattle.x25_link.proofs.station.LinkStation.disconnect.Goals.{then-is_up, else-is_up}
use Rattle.x25_link.proofs.station.LinkStation.disconnect.Goals as goal

pub returns-clause-step : goal.returns-clause-step
returns-clause-step c = λ d before t fits.
    let phase = ap is_up fits.near.phase in
    let down : c.if-is_up.down ≡ (if is_up t.near.phase then Some Local else None) = elim c.if-is_up.branch [
      | then-is_up w ↦ w.down-is ∙ rw (sym phase, sym w.if-is_up.ensures) refl
      | else-is_up w ↦ w.down-is ∙ rw (sym phase, sym w.if-is_up.ensures) refl
    ] in
    record {
      side = c.send.ensures.step d before (with_near t (disconnected d.disc_again)) (c.close.ensures.step d before _ t fits);
      packet = rw c.noted.ensures.packet refl;
      notes = rw (sym down) (c.noted.ensures.notes);
      acknowledged = c.noted.ensures.acknowledged ∙ none_left t.near.outgoing.acked;
    }
