use Rattle.x25_circuit.proofs.{Names.{rules, ap, ◌∙◌, may_answer}, TableLemmas.{answer_in_force, answer_out_of_range}}
use Rattle.x25_circuit.proofs.circuit.Circuit.connect.Goals as goal

pub returns-in_default : goal.returns-in_default
returns-in_default c = record {
  next = λ d x fits.
      rw (answer_out_of_range d x c.args.self.now.flow.params c.said.result.params c.args.facilities.now fits.params c.said.ensures c.in_default.ensures.none)
      (c.clear_for.ensures.next d x fits);
  says = λ d x fits.
      rw (answer_out_of_range d x c.args.self.now.flow.params c.said.result.params c.args.facilities.now fits.params c.said.ensures c.in_default.ensures.none)
      (c.clear_for.ensures.says d x fits);
  range = search rules;
  told = search rules;
}

pub returns : goal.returns
returns c = record {
  next = λ d x fits.
      rw (answer_in_force d x c.args.self.now.flow.params c.in-Some.flow.params c.args.facilities.now fits.params (c.in-Some.ensures.some ∙ c.said.ensures)
      (ap (may_answer c.args.self.now.flow.params) c.in-Some.ensures.some ∙ c.in-Some.ensures.allowed))
      (c.enter.ensures.fits d x fits);
  says = λ d x fits.
      rw (answer_in_force d x c.args.self.now.flow.params c.in-Some.flow.params c.args.facilities.now fits.params (c.in-Some.ensures.some ∙ c.said.ensures)
      (ap (may_answer c.args.self.now.flow.params) c.in-Some.ensures.some ∙ c.in-Some.ensures.allowed))
      c.tells.ensures.says;
  range = search rules;
  told = search rules;
}
