use Rattle.x25_circuit.proofs.{Names.{sym, ◌∙◌}, ParamsLemmas.{answer_is_allowed}}
use Rattle.x25_circuit.proofs.params.FlowControl.answered.Goals as goal

pub invariant_of-result : goal.invariant_of-result
invariant_of-result c = record {
  allowed = answer_is_allowed c.args.self.params c.args.answer c.args.self.allowed
      (sym c.may_answer.ensures ∙ c.if-not-may_answer.false);
}
