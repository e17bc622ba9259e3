use Rattle.x25_circuit.proofs.{AskLemmas.{is_refused}, Names.{rules, sym, ap, ◌∙◌, Some, refl, outgoing}, TableLemmas.{ready_at}, TalkLemmas.{with_transfer, own_fits}}
use Rattle.x25_circuit.proofs.circuit.Circuit.say.Goals as goal

pub returns-in-Some : goal.returns-in-Some
returns-in-Some c = record {
  outcome = λ d x fits. rw (is_refused _ _ (c.in-Some.ensures.refusal d x c.args.is_ready fits)) refl;
  range = search rules;
  control = search rules;
  keeps = search rules;
  unchanged = search rules;
  kinds = search rules;
}

pub returns : goal.returns
returns c = record {
  outcome = λ d x fits.
      let now = with_transfer d c.args.self.now x _ _ _ fits (own_fits (outgoing x).size c.args.self.now.transfer x.talk c.args.is_ready fits.talk) refl in
      rw (ready_at x x.state c.args.is_ready (sym fits.state ∙ c.in_default.ensures.open)) ((now, ap Some (sym (c.status.ensures.value d _ now))));
  range = search rules;
  control = search rules;
  keeps = search rules;
  unchanged = search rules;
  kinds = search rules;
}
