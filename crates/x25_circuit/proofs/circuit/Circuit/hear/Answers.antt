use Rattle.x25_circuit.proofs.{Names.{rules, subst, row_clear, FitsCircuit, State}, TableLemmas.{said_beside}}
use Rattle.x25_circuit.proofs.circuit.Circuit.hear.Goals as goal

pub returns-in-Clear : goal.returns-in-Clear
returns-in-Clear c = record {
  next = λ d x fits. rw (c.in-Ok.is, c.in-Clear.is) (subst (λ (s : State). FitsCircuit d c.hear_clear.new.self (row_clear x s c.in-Clear.cause c.in-Clear.diagnostic).next)
      fits.state (c.hear_clear.ensures.next d x fits));
  says = λ d x fits. rw (c.in-Ok.is, c.in-Clear.is, ← fits.state) (said_beside _ _ _ _ c.hear_clear.ensures.told (c.hear_clear.ensures.says d x fits));
  range = search rules;
  kept = search rules;
}
