use Rattle.std.proofs.Common.{◌<◌, length, ap, sym, subst}
use Rattle.x25_window.specs.code.Held.{Held, Fits}
use Rattle.x25_window.proofs.Fitting.{Fits_acknowledged}
use Rattle.x25_window.proofs.sender.Sender.release.Goals as goal

pub returns-clause-step : goal.returns-clause-step
returns-clause-step g c = λ w fits.
    let inside = subst (λ (h : Held _). Fits h w) (sym c.self.view_is) fits in
    let some = subst (λ (h : Held _). 0 < length h.items) (sym c.self.view_is) c.requires in
    Fits_acknowledged _ w 1 _ _ _ inside some c.next-self-inside.ensures c.saturating_sub-self-inside.ensures (ap (λ b. b.items) c.pop_front.ensures.items)
