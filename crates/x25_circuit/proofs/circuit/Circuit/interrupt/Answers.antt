use Rattle.x25_circuit.proofs.{AskLemmas.{is_refused}, Names.{rules, refl}}
use Rattle.x25_circuit.proofs.circuit.Circuit.interrupt.Goals as goal

pub returns-in-Some : goal.returns-in-Some
returns-in-Some c = record {
  outcome = λ d x fits. rw (is_refused _ _ (c.in-Some.ensures.refusal d x fits)) refl;
  range = search rules;
  control = search rules;
  keeps = search rules;
  unchanged = search rules;
  kinds = search rules;
}
