use Rattle.x25_circuit.proofs.{Names.{rules, sym, ◌∙◌, outgoing}, TalkLemmas.{with_transfer, same_longest, same_transfer, peer_fits}}
use Rattle.x25_circuit.proofs.circuit.Circuit.hear_status.Goals as goal

pub returns-then-not-ack : goal.returns-then-not-ack
returns-then-not-ack c = record {
  next = λ d x fits. rw (sym (c.ack.ensures.valid (outgoing x).size x.talk fits.talk) ∙ c.if-not-ack.true)
      (c.reset_for.ensures.next d x (same_transfer d c.args.self.now x _ _ fits (c.ack.ensures.unchanged c.if-not-ack.true)));
  says = λ d x fits. rw (sym (c.ack.ensures.valid (outgoing x).size x.talk fits.talk) ∙ c.if-not-ack.true)
      (c.reset_for.ensures.says d x (same_transfer d c.args.self.now x _ _ fits (c.ack.ensures.unchanged c.if-not-ack.true)));
  range = search rules;
  told = search rules;
}

pub returns : goal.returns
returns c = record {
  next = λ d x fits.
      let acked = c.ack.ensures.fits (outgoing x).size x.talk fits.talk c.if-not-ack.false in
      rw (sym (c.ack.ensures.valid (outgoing x).size x.talk fits.talk) ∙ c.if-not-ack.false)
      (with_transfer d c.args.self.now x _ _ _ fits (peer_fits (outgoing x).size c.ack.new.self _ c.args.is_ready acked)
      (same_longest _ _ c.ack.ensures.partial));
  says = λ d x fits. rw (sym (c.ack.ensures.valid (outgoing x).size x.talk fits.talk) ∙ c.if-not-ack.false) c.nothing.ensures.says;
  range = search rules;
  told = search rules;
}
