use Rattle.x25_link.proofs.Names.{rules, sym, ◌∙◌, [], ap, length, arith, refl, LinkStep, alone, disconnects}
use Rattle.x25_link.proofs.{AckedLemmas.{closed_same}, LinkLemmas.{begins, closed_state, closed_out}}
use Rattle.x25_link.proofs.link.Link.disconnect.Goals as goal

pub returns : goal.returns
returns c = record {
  state = λ d s fits.
      let heard = c.disconnect.ensures.step d _ (alone s) (begins d _ _ _ s c.self.view_is fits c.clear.ensures) in
      let step : LinkStep = disconnects d.disc_again (alone s) in
      closed_state d _ step.side heard.side.near refl refl;
  frames = λ d s fits.
      let heard = c.disconnect.ensures.step d _ (alone s) (begins d _ _ _ s c.self.view_is fits c.clear.ensures) in
      let step : LinkStep = disconnects d.disc_again (alone s) in
      closed_out d [] _ step.side refl refl heard.side.out;
  heard = λ d s fits.
      let heard = c.disconnect.ensures.step d _ (alone s) (begins d _ _ _ s c.self.view_is fits c.clear.ensures) in
      let step : LinkStep = disconnects d.disc_again (alone s) in
      record { packet = heard.packet; notes = heard.notes; acknowledged = heard.acknowledged ∙ sym (closed_same s d.window step) };
  few = omega (arith, c.disconnect.ensures.one, ap length c.clear.ensures);
  refused = search rules;
  err = search rules;
}
