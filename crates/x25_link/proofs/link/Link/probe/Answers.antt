use Rattle.x25_link.proofs.Names.{rules, sym, ◌∙◌, [], ap, length, arith, LinkStep, alone, fires}
use Rattle.x25_link.proofs.{AckedLemmas.{closed_same}, LinkLemmas.{begins, closed_state, closed_out, fires_settled, fires_calm}}
use Rattle.x25_link.proofs.link.Link.probe.Goals as goal

pub returns : goal.returns
returns c = record {
  state = λ d s fits.
      let heard = c.fire-heard.ensures.step d _ (alone s) (begins d _ _ _ s c.self.view_is fits c.clear.ensures) in
      let step : LinkStep = fires d (alone s) in
      closed_state d _ step.side heard.side.near (fires_settled d (alone s)) (fires_calm d (alone s));
  frames = λ d s fits.
      let heard = c.fire-heard.ensures.step d _ (alone s) (begins d _ _ _ s c.self.view_is fits c.clear.ensures) in
      let step : LinkStep = fires d (alone s) in
      closed_out d [] _ step.side (fires_settled d (alone s)) (fires_calm d (alone s)) heard.side.out;
  heard = λ d s fits.
      let heard = c.fire-heard.ensures.step d _ (alone s) (begins d _ _ _ s c.self.view_is fits c.clear.ensures) in
      let step : LinkStep = fires d (alone s) in
      record { packet = heard.packet; notes = heard.notes; acknowledged = heard.acknowledged ∙ sym (closed_same s d.window step) };
  few = omega (arith, c.fire-heard.ensures.one, ap length c.clear.ensures);
  refused = search rules;
  err = search rules;
}
