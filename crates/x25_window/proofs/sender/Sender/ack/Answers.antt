use Rattle.std.proofs.Common.{◌≡◌, ◌≤◌, ◌+◌, ◌-◌, ◌%◌, ◌∙◌, length, drop, ap, sym, subst, arith}
use Rattle.x25_window.specs.code.Held.{Held, Fits}
use Rattle.x25_window.proofs.Fitting.{Fits_acknowledged}
use Rattle.x25_window.proofs.sender.Sender.ack.Goals as goal

pub returns-clause-step : goal.returns-clause-step
returns-clause-step g c = λ w fits.
    let count = c.in_ok-count.count in
    let inside = subst (λ (h : Held _). Fits h w) (sym c.self.view_is) fits in
    let few = subst (λ (h : Held _). count ≤ length h.items) (sym c.self.view_is) c.in_ok-count.ensures.held.0 in
    let next = subst (λ (h : Held _). (h.first + count) % 8 ≡ c.args.number.number) (sym c.self.view_is) c.in_ok-count.ensures.held.1 in
    let items = c.self.inside.items.items in
    let skip : length items - (c.len.result - count) ≡ count = omega (arith, few, c.len.ensures) in
    Fits_acknowledged _ w count _ _ _ inside few (sym next) c.saturating_sub-self-inside.ensures
    (ap (λ b. b.items) c.truncate_front.ensures ∙ ap (λ k. drop k items) skip)
