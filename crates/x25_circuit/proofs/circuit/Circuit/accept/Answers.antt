use Rattle.x25_circuit.proofs.Names.{rules, ◌≡◌, Option, IfSome, true, sym, refl, subst, ap, None, Some, Err, false, ◌∙◌, lit≤, err_from_is_err_and, entered}
use Rattle.x25_circuit.proofs.Names.{outgoing, Proposal, may_answer, may_propose, FitsCircuit, NoMemory, Params, Open, IsFacilityField}
use Rattle.x25_circuit.proofs.AskLemmas.{all_err, err_is, is_done, is_refused, lacks}
use Rattle.x25_circuit.proofs.{ParamsLemmas.{field_is_allowed}, TableLemmas.{accept_at, answer_accepts}, TalkLemmas.{kept_circuit, with_transfer, no_field}}
use Rattle.x25_circuit.specs.Request.{plain_answer, params_answered}
use denote.Ref.{Bor}
use Rattle.x25_circuit.proofs.circuit.Circuit.accept.Goals as goal

pub returns-in_err-flow : goal.returns-in_err-flow
returns-in_err-flow c = record {
  outcome = λ d x fits.
      let p = err_from_is_err_and c.from_residual.result c.from_residual.ensures.1 in
      rw (is_refused _ _ (c.in_err-flow.ensures.refusal d x fits)) (p.1 ∙ ap Err p.2);
  range = search rules;
  control = search rules;
  keeps = search rules;
  unchanged = search rules;
  lacks = λ is.
      let p = err_from_is_err_and c.from_residual.result c.from_residual.ensures.1 in
      absurd (c.in_err-flow.ensures.kinds (err_is _ NoMemory (sym (p.1 ∙ ap Err p.2) ∙ is)));
  accepted = λ is.
      let p = err_from_is_err_and c.from_residual.result c.from_residual.ensures.1 in
      absurd (c.in_err-flow.ensures.kinds (err_is _ NoMemory (sym (p.1 ∙ ap Err p.2) ∙ is)));
}

pub returns-in_err-make : goal.returns-in_err-make
returns-in_err-make c = record {
  outcome = λ d x fits.
      let p = err_from_is_err_and c.from_residual-in_err-make.result c.from_residual-in_err-make.ensures.1 in
      lacks d _ _ _ (is_done _ (sym (c.in_ok-flow.ensures.refusal d x fits))) (p.1 ∙ ap Err p.2);
  range = search rules;
  control = search rules;
  keeps = search rules;
  unchanged = all_err _ (kept_circuit c.args.self.now c.make.new.self _ c.in_err-make.ensures.unchanged);
  lacks = search rules;
  accepted = λ is d x fits. is_done _ (sym (c.in_ok-flow.ensures.refusal d x fits));
}

pub returns-in-Some : goal.returns-in-Some
returns-in-Some c = record {
  outcome = λ d x fits.
      let made = with_transfer d c.args.self.now x _ _ _ fits (c.make.ensures.fits (outgoing x).size x.talk fits.talk) c.make.ensures.longest in
      let known = c.args.self.now.flow.params in
      let flow = c.in_ok-flow.ensures.flow ∙ ap (λ (a : Option (Bor Proposal)). params_answered (plain_answer a) known) c.in-Some.is in
      let may = subst (λ (a : Option (Bor Proposal)). IfSome (plain_answer a) (λ said. may_answer known said.params ≡ true)) c.in-Some.is
      c.in_ok-flow.ensures.may_answer in
      rw (
        c.in-Some.is,
        accept_at x x.state (Some c.in-Some.answer.now) (sym fits.state ∙ c.in_ok-flow.ensures.arriving),
        answer_accepts x c.in-Some.answer.now (ap (λ (p : Params). may_answer p c.in-Some.answer.now.params) (sym fits.params) ∙ may),
      )
      ((
        subst (λ (p : Params). FitsCircuit d c.enter.new.self (entered x Open p false)) flow (c.enter.ensures.fits d x made),
        rw (c.field_for.ensures, fits.params) refl,
      ));
  range =
      let known = c.args.self.now.flow.params in
      let flow = c.in_ok-flow.ensures.flow ∙ ap (λ (a : Option (Bor Proposal)). params_answered (plain_answer a) known) c.in-Some.is in (
        (lit≤ tt, lit≤ tt),
        subst IsFacilityField (sym c.field_for.ensures)
            (field_is_allowed known c.in-Some.answer.now (subst (λ (p : Params). may_propose p ≡ true) flow c.in_ok-flow.flow.allowed)),
      );
  control = search rules;
  keeps = search rules;
  unchanged = search rules;
  lacks = search rules;
  accepted = search rules;
}

pub returns-in-None : goal.returns-in-None
returns-in-None c = record {
  outcome = λ d x fits.
      let made = with_transfer d c.args.self.now x _ _ _ fits (c.make.ensures.fits (outgoing x).size x.talk fits.talk) c.make.ensures.longest in
      let flow = c.in_ok-flow.ensures.flow ∙ ap (λ (a : Option (Bor Proposal)). params_answered (plain_answer a) c.args.self.now.flow.params) c.in-None.is
      ∙ fits.params in
      rw (c.in-None.is, accept_at x x.state None (sym fits.state ∙ c.in_ok-flow.ensures.arriving))
      ((subst (λ (p : Params). FitsCircuit d c.enter.new.self (entered x Open p false)) flow (c.enter.ensures.fits d x made), rw c.none.ensures refl));
  range = ((lit≤ tt, lit≤ tt), subst IsFacilityField (sym c.none.ensures) no_field);
  control = search rules;
  keeps = search rules;
  unchanged = search rules;
  lacks = search rules;
  accepted = search rules;
}
