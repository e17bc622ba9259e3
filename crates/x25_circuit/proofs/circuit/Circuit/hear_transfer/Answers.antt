use Rattle.x25_circuit.proofs.{Names.{rules}, TableLemmas.{data_strays, said_beside}}
use Rattle.x25_circuit.proofs.circuit.Circuit.hear_transfer.Goals as goal

pub returns-in_default : goal.returns-in_default
returns-in_default c = record {
  next = λ d x fits. rw (data_strays d x _ _ c.in_default.not-Open c.in_default.not-Resetting c.in_default.not-Clearing) (c.unexpected.ensures.next d x fits);
  says = λ d x fits. rw (data_strays d x _ _ c.in_default.not-Open c.in_default.not-Resetting c.in_default.not-Clearing) (said_beside _ _ _ _ c.unexpected.ensures.told (c.unexpected.ensures.says d x fits));
  range = search rules;
  kept = search rules;
}
