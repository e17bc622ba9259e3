use Rattle.x25_circuit.proofs.Names.{rules, ℕ, length, sym, ap, ◌∙◌, Some, length_push, incoming, outgoing, Partial, piece_of, completed}
use Rattle.x25_circuit.{proofs.TableLemmas.{said_beside}, proofs.TalkLemmas.{number_refused}, specs.Hearing.{status}, specs.Notice.{deliveries}}
use Rattle.x25_circuit.proofs.TalkLemmas.{same_number, taken_size, with_transfer, same_longest, same_transfer, taken_more, taken_fits, data_ground_is}
use Rattle.x25_circuit.proofs.circuit.Circuit.hear_data.Goals as goal

pub returns-then-not-ack : goal.returns-then-not-ack
returns-then-not-ack c = record {
  next = λ d x fits. rw (sym (c.ack.ensures.valid (outgoing x).size x.talk fits.talk) ∙ c.if-not-ack.true)
      (c.reset_for.ensures.next d x (same_transfer d c.args.self.now x _ _ fits (c.ack.ensures.unchanged c.if-not-ack.true)));
  says = λ d x fits. rw (sym (c.ack.ensures.valid (outgoing x).size x.talk fits.talk) ∙ c.if-not-ack.true)
      (said_beside _ _ _ _ c.reset_for.ensures.told (c.reset_for.ensures.says d x (same_transfer d c.args.self.now x _ _ fits (c.ack.ensures.unchanged c.if-not-ack.true))));
  range = search rules;
  kept = search rules;
}

pub returns-then-ne : goal.returns-then-ne
returns-then-ne c = record {
  next = λ d x fits.
      let acked = c.ack.ensures.fits (outgoing x).size x.talk fits.talk c.if-not-ack.false in
      let ground = number_refused d.longest (incoming x).size c.args.ps.number c.args.pr.number _ x.talk (piece_of c.args.marks c.args.m c.args.user.now)
      (sym (c.ack.ensures.valid (outgoing x).size x.talk fits.talk) ∙ c.if-not-ack.false) (c.wanted.ensures.state (length x.talk.taken) acked.taken) c.if-ne.ensures in
      rw ground (c.reset_for-then-ne.ensures.next d _ (with_transfer d c.args.self.now x _ _ _ fits acked (same_longest _ _ c.ack.ensures.partial)));
  says = λ d x fits.
      let acked = c.ack.ensures.fits (outgoing x).size x.talk fits.talk c.if-not-ack.false in
      let ground = number_refused d.longest (incoming x).size c.args.ps.number c.args.pr.number _ x.talk (piece_of c.args.marks c.args.m c.args.user.now)
      (sym (c.ack.ensures.valid (outgoing x).size x.talk fits.talk) ∙ c.if-not-ack.false) (c.wanted.ensures.state (length x.talk.taken) acked.taken) c.if-ne.ensures in
      rw ground (said_beside _ _ _ _ c.reset_for-then-ne.ensures.told (c.reset_for-then-ne.ensures.says d _ (with_transfer d c.args.self.now x _ _ _ fits acked (same_longest _ _ c.ack.ensures.partial))));
  range = search rules;
  kept = search rules;
}

pub returns-in-Some : goal.returns-in-Some
returns-in-Some c = record {
  next = λ d x fits.
      let acked = c.ack.ensures.fits (outgoing x).size x.talk fits.talk c.if-not-ack.false in
      let ground = data_ground_is d.longest (incoming x).size _ _ c.args.ps.number c.args.pr.number _ x.talk c.args.marks c.args.m c.args.user.now _ _
      (same_longest _ _ c.ack.ensures.partial ∙ fits.longest) (taken_size d c.args.self.now x _ fits c.terms-size.ensures.size) (sym (c.ack.ensures.valid (outgoing x).size x.talk fits.talk) ∙ c.if-not-ack.false)
      (c.wanted.ensures.state (length x.talk.taken) acked.taken) c.if-ne.ensures acked.part c.in-Some.ensures.value in
      rw ground (c.reset_for-in-Some.ensures.next d _ (with_transfer d c.args.self.now x _ _ _ fits acked (same_longest _ _ c.ack.ensures.partial)));
  says = λ d x fits.
      let acked = c.ack.ensures.fits (outgoing x).size x.talk fits.talk c.if-not-ack.false in
      let ground = data_ground_is d.longest (incoming x).size _ _ c.args.ps.number c.args.pr.number _ x.talk c.args.marks c.args.m c.args.user.now _ _
      (same_longest _ _ c.ack.ensures.partial ∙ fits.longest) (taken_size d c.args.self.now x _ fits c.terms-size.ensures.size) (sym (c.ack.ensures.valid (outgoing x).size x.talk fits.talk) ∙ c.if-not-ack.false)
      (c.wanted.ensures.state (length x.talk.taken) acked.taken) c.if-ne.ensures acked.part c.in-Some.ensures.value in
      rw ground (said_beside _ _ _ _ c.reset_for-in-Some.ensures.told (c.reset_for-in-Some.ensures.says d _ (with_transfer d c.args.self.now x _ _ _ fits acked (same_longest _ _ c.ack.ensures.partial))));
  range = search rules;
  kept = search rules;
}

pub returns-then-join : goal.returns-then-join
returns-then-join c = record {
  next = λ d x fits.
      let acked = c.ack.ensures.fits (outgoing x).size x.talk fits.talk c.if-not-ack.false in
      let taken = taken_more c.accept.new.self c.accept.result (length x.talk.taken)
      ((c.accept.ensures.wanted (length x.talk.taken) acked.taken).1
      (same_number _ _ c.if-ne.ensures ∙ c.wanted.ensures.state (length x.talk.taken) acked.taken))
      (c.accept.ensures.step (length x.talk.taken) acked.taken) in
      let ground = data_ground_is d.longest (incoming x).size _ _ c.args.ps.number c.args.pr.number _ x.talk c.args.marks c.args.m c.args.user.now _ _
      (same_longest _ _ c.ack.ensures.partial ∙ fits.longest) (taken_size d c.args.self.now x _ fits c.terms-size.ensures.size) (sym (c.ack.ensures.valid (outgoing x).size x.talk fits.talk) ∙ c.if-not-ack.false)
      (c.wanted.ensures.state (length x.talk.taken) acked.taken) c.if-ne.ensures acked.part c.in_default.ensures.value in
      rw ground
      (with_transfer d c.args.self.now x _ _ _ fits
      (taken_fits (outgoing x).size c.ack.new.self _ c.accept.new.self _ (piece_of c.args.marks c.args.m c.args.user.now) acked taken
      c.if-join.ensures.part c.if-join.ensures.short) (c.if-join.ensures.longest ∙ same_longest _ _ c.ack.ensures.partial));
  says = λ d x fits.
      let acked = c.ack.ensures.fits (outgoing x).size x.talk fits.talk c.if-not-ack.false in
      let taken = taken_more c.accept.new.self c.accept.result (length x.talk.taken)
      ((c.accept.ensures.wanted (length x.talk.taken) acked.taken).1
      (same_number _ _ c.if-ne.ensures ∙ c.wanted.ensures.state (length x.talk.taken) acked.taken))
      (c.accept.ensures.step (length x.talk.taken) acked.taken) in
      let piece = piece_of c.args.marks c.args.m c.args.user.now in
      let now = with_transfer d c.args.self.now x _ _ _ fits
      (taken_fits (outgoing x).size c.ack.new.self _ c.accept.new.self _ piece acked taken c.if-join.ensures.part c.if-join.ensures.short)
      (c.if-join.ensures.longest ∙ same_longest _ _ c.ack.ensures.partial) in
      let ground = data_ground_is d.longest (incoming x).size _ _ c.args.ps.number c.args.pr.number _ x.talk c.args.marks c.args.m c.args.user.now _ _
      (same_longest _ _ c.ack.ensures.partial ∙ fits.longest) (taken_size d c.args.self.now x _ fits c.terms-size.ensures.size) (sym (c.ack.ensures.valid (outgoing x).size x.talk fits.talk) ∙ c.if-not-ack.false)
      (c.wanted.ensures.state (length x.talk.taken) acked.taken) c.if-ne.ensures acked.part c.in_default.ensures.value in
      rw ground (record {
        owed = ap Some (c.status.ensures.value d _ now ∙ ap (λ (n : ℕ). status x.talk.own_ready n) (length_push x.talk.taken piece));
        notices = ap deliveries (c.if-join.ensures.message ∙ ap (λ (j : Partial). completed j piece) acked.part);
      });
  range = search rules;
  kept = search rules;
}

pub returns : goal.returns
returns c = record {
  next = λ d x fits.
      let acked = c.ack.ensures.fits (outgoing x).size x.talk fits.talk c.if-not-ack.false in
      let taken = taken_more c.accept.new.self c.accept.result (length x.talk.taken)
      ((c.accept.ensures.wanted (length x.talk.taken) acked.taken).1
      (same_number _ _ c.if-ne.ensures ∙ c.wanted.ensures.state (length x.talk.taken) acked.taken))
      (c.accept.ensures.step (length x.talk.taken) acked.taken) in
      let ground = data_ground_is d.longest (incoming x).size _ _ c.args.ps.number c.args.pr.number _ x.talk c.args.marks c.args.m c.args.user.now _ _
      (same_longest _ _ c.ack.ensures.partial ∙ fits.longest) (taken_size d c.args.self.now x _ fits c.terms-size.ensures.size) (sym (c.ack.ensures.valid (outgoing x).size x.talk fits.talk) ∙ c.if-not-ack.false)
      (c.wanted.ensures.state (length x.talk.taken) acked.taken) c.if-ne.ensures acked.part c.in_default.ensures.value in
      rw ground
      (with_transfer d c.args.self.now x _ _ _ fits
      (taken_fits (outgoing x).size c.ack.new.self _ c.accept.new.self _ (piece_of c.args.marks c.args.m c.args.user.now) acked taken
      c.if-join.ensures.part c.if-join.ensures.short) (c.if-join.ensures.longest ∙ same_longest _ _ c.ack.ensures.partial));
  says = λ d x fits.
      let acked = c.ack.ensures.fits (outgoing x).size x.talk fits.talk c.if-not-ack.false in
      let taken = taken_more c.accept.new.self c.accept.result (length x.talk.taken)
      ((c.accept.ensures.wanted (length x.talk.taken) acked.taken).1
      (same_number _ _ c.if-ne.ensures ∙ c.wanted.ensures.state (length x.talk.taken) acked.taken))
      (c.accept.ensures.step (length x.talk.taken) acked.taken) in
      let piece = piece_of c.args.marks c.args.m c.args.user.now in
      let now = with_transfer d c.args.self.now x _ _ _ fits
      (taken_fits (outgoing x).size c.ack.new.self _ c.accept.new.self _ piece acked taken c.if-join.ensures.part c.if-join.ensures.short)
      (c.if-join.ensures.longest ∙ same_longest _ _ c.ack.ensures.partial) in
      let ground = data_ground_is d.longest (incoming x).size _ _ c.args.ps.number c.args.pr.number _ x.talk c.args.marks c.args.m c.args.user.now _ _
      (same_longest _ _ c.ack.ensures.partial ∙ fits.longest) (taken_size d c.args.self.now x _ fits c.terms-size.ensures.size) (sym (c.ack.ensures.valid (outgoing x).size x.talk fits.talk) ∙ c.if-not-ack.false)
      (c.wanted.ensures.state (length x.talk.taken) acked.taken) c.if-ne.ensures acked.part c.in_default.ensures.value in
      rw ground (said_beside _ _ _ _ c.owes.ensures.told (record {
        owed = c.owes.ensures.says.owed ∙ ap Some
            (c.status-2.ensures.value d _ now ∙ ap (λ (n : ℕ). status x.talk.own_ready n) (length_push x.talk.taken piece));
        notices = c.owes.ensures.says.notices ∙ ap deliveries (c.if-join.ensures.message ∙ ap (λ (j : Partial). completed j piece) acked.part);
      }));
  range = search rules;
  kept = search rules;
}
