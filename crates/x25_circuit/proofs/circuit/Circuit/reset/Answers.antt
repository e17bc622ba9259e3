use Rattle.x25_circuit.{proofs.AskLemmas.{is_refused}, proofs.Names.{rules, ◌≡◌, ◌∙◌, true, sym, subst, refl, Role}, specs.Cause.{may_reset_for}}
use Rattle.x25_circuit.proofs.circuit.Circuit.reset.Goals as goal

pub returns-in-Some : goal.returns-in-Some
returns-in-Some c = record {
  outcome = λ d x fits. rw (is_refused _ _ (c.in-Some.ensures.refusal d x c.args.diagnostic fits)) refl;
  range = search rules;
  control = search rules;
  keeps = search rules;
  unchanged = search rules;
  kinds = search rules;
}

pub returns : goal.returns
returns c = record {
  outcome = λ d x fits. rw (
    sym fits.state ∙ c.in_default.ensures.open,
    subst (λ (r : Role). may_reset_for r c.args.cause ≡ true) fits.role c.in_default.ensures.given,
  ) ((c.begin_stretch.ensures.fits d x fits, refl));
  range = search rules;
  control = search rules;
  keeps = search rules;
  unchanged = search rules;
  kinds = search rules;
}
