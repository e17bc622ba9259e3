use Rattle.x25_circuit.proofs.Names.{rules, ◌≡◌, refl, Bool, Err, ap, sym, subst, ◌∙◌, lit≤, true, err_from_is_err_and, call_in, Refused, entered, outgoing}
use Rattle.x25_circuit.proofs.{AskLemmas.{all_err, err_is, is_refused}, Names.{may_propose, FitsCircuit, NoMemory, Params, Calling, IsFacilityField}}
use Rattle.x25_circuit.proofs.{ParamsLemmas.{field_is_allowed}, TableLemmas.{call_at}, TalkLemmas.{kept_circuit, with_transfer}}
use Rattle.x25_circuit.specs.Calling.{may_call}
use Rattle.x25_circuit.proofs.circuit.Circuit.call.Goals as goal

pub returns-in_err-fields : goal.returns-in_err-fields
returns-in_err-fields c = record {
  outcome = λ d x fits.
      let p = err_from_is_err_and c.from_residual.result c.from_residual.ensures.1 in
      let says = c.args.proposal.now.says_all in
      let refused = subst (λ (q : Params). call_in d x x.state c.args.called.now c.args.calling.now c.args.user.now (record { params = q; says_all = says })
      ≡ Refused c.in_err-fields.field-0.0)
      c.params.ensures (is_refused _ _ (c.in_err-fields.ensures.refusal d x says fits)) in
      rw (refused) (p.1 ∙ ap Err p.2);
  range = search rules;
  control = search rules;
  keeps = search rules;
  unchanged = search rules;
  lacks = λ is.
      let p = err_from_is_err_and c.from_residual.result c.from_residual.ensures.1 in
      absurd (c.in_err-fields.ensures.kinds (err_is _ NoMemory (sym (p.1 ∙ ap Err p.2) ∙ is)));
  accepted = λ is.
      let p = err_from_is_err_and c.from_residual.result c.from_residual.ensures.1 in
      absurd (c.in_err-fields.ensures.kinds (err_is _ NoMemory (sym (p.1 ∙ ap Err p.2) ∙ is)));
}

pub returns-in_err-make : goal.returns-in_err-make
returns-in_err-make c = record {
  outcome = λ d x fits.
      let said = c.in_ok-fields.ensures in
      let p = err_from_is_err_and c.from_residual-in_err-make.result c.from_residual-in_err-make.ensures.1 in
      let may = subst (λ (b : Bool). may_call b c.args.called.now c.args.calling.now c.args.user.now c.args.proposal.now.params ≡ true) fits.long_data
      (subst (λ (p : Params). may_call c.args.self.now.long_data c.args.called.now c.args.calling.now c.args.user.now p ≡ true) c.params.ensures said.may_call)
      in
      rw (call_at d x x.state c.args.called.now c.args.calling.now c.args.user.now c.args.proposal.now (sym fits.state ∙ said.free), may, p.1 ∙ ap Err p.2)
      refl;
  range = search rules;
  control = search rules;
  keeps = search rules;
  unchanged = all_err _ (kept_circuit c.args.self.now c.make.new.self _ c.in_err-make.ensures.unchanged);
  lacks = search rules;
  accepted = λ is d x fits.
      let said = c.in_ok-fields.ensures in
      let may = subst (λ (b : Bool). may_call b c.args.called.now c.args.calling.now c.args.user.now c.args.proposal.now.params ≡ true) fits.long_data
      (subst (λ (p : Params). may_call c.args.self.now.long_data c.args.called.now c.args.calling.now c.args.user.now p ≡ true) c.params.ensures said.may_call)
      in
      rw (call_at d x x.state c.args.called.now c.args.calling.now c.args.user.now c.args.proposal.now (sym fits.state ∙ said.free), may) tt;
}

pub returns : goal.returns
returns c = record {
  outcome = λ d x fits.
      let made = with_transfer d c.args.self.now x _ _ _ fits (c.make.ensures.fits (outgoing x).size x.talk fits.talk) c.make.ensures.longest in
      let said = c.in_ok-fields.ensures in
      let may = subst (λ (b : Bool). may_call b c.args.called.now c.args.calling.now c.args.user.now c.args.proposal.now.params ≡ true) fits.long_data
      (subst (λ (p : Params). may_call c.args.self.now.long_data c.args.called.now c.args.calling.now c.args.user.now p ≡ true) c.params.ensures said.may_call)
      in
      rw (call_at d x x.state c.args.called.now c.args.calling.now c.args.user.now c.args.proposal.now (sym fits.state ∙ said.free), may)
      ((
        subst (λ (p : Params). FitsCircuit d c.enter.new.self (entered x Calling p true)) (said.flow ∙ c.params.ensures) (c.enter.ensures.fits d x made),
        rw (said.called, said.calling, c.field_for.ensures, c.default.ensures) refl,
      ));
  range =
      let said = c.in_ok-fields.ensures in
      let allowed = subst (λ (p : Params). may_propose p ≡ true) (said.flow ∙ c.params.ensures) c.in_ok-fields.fields.flow.allowed in (
        (lit≤ tt, lit≤ tt),
        said.called_address,
        said.calling_address,
        subst IsFacilityField (sym c.field_for.ensures) (field_is_allowed c.default.result c.args.proposal.now allowed),
        said.short,
      );
  control = search rules;
  keeps = search rules;
  unchanged = search rules;
  lacks = search rules;
  accepted = search rules;
}
