use Rattle.x25_link.proofs.Names.{rules, sym, ◌∙◌, [], ap, length, arith, refl, LinkStep, alone, connects}
use Rattle.x25_link.proofs.{AckedLemmas.{closed_same, none_again}, LinkLemmas.{begins, closed_state, closed_out}}
use Rattle.x25_link.proofs.link.Link.connect.Goals as goal

pub returns : goal.returns
returns c = record {
  state = λ d s fits.
      let heard = c.connect.ensures.step d _ (alone s) (begins d _ _ _ s c.self.view_is fits c.clear.ensures) in
      let step : LinkStep = connects (alone s) in
      closed_state d _ step.side heard.near refl refl;
  frames = λ d s fits.
      let heard = c.connect.ensures.step d _ (alone s) (begins d _ _ _ s c.self.view_is fits c.clear.ensures) in
      let step : LinkStep = connects (alone s) in
      closed_out d [] _ step.side refl refl heard.out;
  heard = λ d s fits. record {
    packet = rw c.quiet.ensures.packet refl;
    notes = c.quiet.ensures.notes;
    acknowledged = c.quiet.ensures.acknowledged ∙ none_again (alone s) ∙ sym (closed_same s d.window (connects (alone s)));
  };
  few = omega (arith, c.connect.ensures.one, ap length c.clear.ensures);
  refused = search rules;
  err = search rules;
}
