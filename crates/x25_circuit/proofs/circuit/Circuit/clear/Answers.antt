use Rattle.x25_circuit.proofs.{AskLemmas.{is_refused}, Names.{rules, ◌≡◌, true, sym, subst, refl, Role}, TableLemmas.{clear_done}}
use Rattle.x25_circuit.specs.Cause.{may_clear_for}
use Rattle.x25_circuit.proofs.circuit.Circuit.clear.Goals as goal

pub returns-in-Some : goal.returns-in-Some
returns-in-Some c = record {
  outcome = λ d x fits. rw (is_refused _ _ (c.in-Some.ensures.refusal d x c.args.diagnostic fits)) refl;
  range = search rules;
  control = search rules;
  keeps = search rules;
  unchanged = search rules;
  kinds = search rules;
}

pub returns : goal.returns
returns c = record {
  outcome = λ d x fits.
      rw (
        sym fits.state,
        clear_done d x _ c.args.cause c.args.diagnostic c.in_default.ensures.not_free c.in_default.ensures.not_clearing,
        subst (λ (r : Role). may_clear_for r c.args.cause ≡ true) fits.role c.in_default.ensures.given,
      )
      ((c.end_call.ensures.fits d x fits, refl));
  range = search rules;
  control = search rules;
  keeps = search rules;
  unchanged = search rules;
  kinds = search rules;
}
