use Rattle.x25_link.proofs.{FitsLemmas.{closes_fits}, Names.{sym, ap, ◌∙◌, if◌then◌else◌, Asked, Unasked}}
use Rattle.x25_link.proofs.station.LinkStation.close.Goals as goal

pub returns-then-self : goal.returns-then-self
returns-then-self c = record {
  step = λ d before made t fits.
      let cleared = c.clear.ensures.step d before made t fits in
      closes_fits d _ Asked before made t t.near.tries (sym (ap (λ b. if b then Asked else Unasked) (sym cleared.near.again ∙ c.if-self.true))) cleared;
}

pub returns-else-self : goal.returns-else-self
returns-else-self c = record {
  step = λ d before made t fits.
      let cleared = c.clear.ensures.step d before made t fits in
      closes_fits d _ _ before made t t.near.tries
      (cleared.near.closing ∙ sym (ap (λ b. if b then Asked else Unasked) (sym cleared.near.again ∙ c.if-self.false))) cleared;
}
