use Rattle.x25_link.proofs.Names.{rules, arith, ap, length, sym, ◌∙◌, frame_of, LinkStep, other, alone, hears}
use Rattle.x25_link.proofs.{AckedLemmas.{closed_same}, EndLemmas.{ended_settled, ended_calm}, LinkLemmas.{begins}}
use Rattle.x25_link.proofs.link.Link.hear.Goals as goal

pub end-requires : goal.end-requires
end-requires c = omega (arith, c.hear-heard.ensures.one, ap length c.clear.ensures)

pub returns : goal.returns
returns c = record {
  state = λ d s fits.
      let heard = c.hear-heard.ensures.step d _ (alone s) (begins d _ _ _ s c.self.view_is fits c.clear.ensures) in
      let side = c.end.ensures.step d _ _ heard.side in
      let step : LinkStep = hears d c.args.octets.now (frame_of (other d.role) d.longest c.args.octets.now) s.phase (alone s) in
      let sound = heard.side.near.outgoing.sender.sound in
      record { near = side.near; settled = ended_settled d.window step.side sound.window_high sound.place_low; calm = ended_calm d.window step.side };
  frames = λ d s fits.
      let heard = c.hear-heard.ensures.step d _ (alone s) (begins d _ _ _ s c.self.view_is fits c.clear.ensures) in
      let side = c.end.ensures.step d _ _ heard.side in
      side.out;
  heard = λ d s fits.
      let heard = c.hear-heard.ensures.step d _ (alone s) (begins d _ _ _ s c.self.view_is fits c.clear.ensures) in
      let step : LinkStep = hears d c.args.octets.now (frame_of (other d.role) d.longest c.args.octets.now) s.phase (alone s) in
      record { packet = heard.packet; notes = heard.notes; acknowledged = heard.acknowledged ∙ sym (closed_same s d.window step) };
  few = omega (arith, c.end.ensures.few, c.hear-heard.ensures.one, ap length c.clear.ensures);
  refused = search rules;
  err = search rules;
}
