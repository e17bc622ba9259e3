use Rattle.x25_circuit.proofs.Names.{rules}
use Rattle.x25_circuit.proofs.circuit.Circuit.hear_interrupt_conf.Goals as goal

pub returns-then-not-self : goal.returns-then-not-self
returns-then-not-self c = record {
  next = λ d x fits. rw c.if-not-self.true (c.reset_for.ensures.next d x fits);
  says = λ d x fits. rw c.if-not-self.true (c.reset_for.ensures.says d x fits);
  range = search rules;
  told = search rules;
}
