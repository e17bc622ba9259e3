use Rattle.x25_layer.proofs.Names.{rules, ◌∙◌, sym, ap, subst, Option, true, packet_on, IsPut, PlainPacket, moved_to, spelling_of}
use Rattle.x25_layer.proofs.pulling.pull_waiting.Goals as goal

pub returns-in_default-clause-pulls : goal.returns-in_default-clause-pulls
returns-in_default-clause-pulls c = record {
  next = search rules;
  put = λ s x fits. ap (λ (o : Option PlainPacket). packet_on c.args.channel o) (sym (c.in_default.ensures.packet s x fits));
  long = search rules;
  clears = search rules;
  resets = search rules;
}

pub returns-clause-pulls : goal.returns-clause-pulls
returns-clause-pulls c = record {
  next = search rules;
  put = λ s x fits.
      let spelled = c.with_channel-packet.ensures.moved ∙ ap (moved_to c.args.channel) c.packet.ensures in
      subst (λ (o : Option PlainPacket). IsPut true c.spell.new.self (packet_on c.args.channel o)) (c.in-Some.ensures.packet s x fits)
      (c.spell.ensures.put ∙ ap spelling_of spelled);
  long = search rules;
  clears = search rules;
  resets = search rules;
}
