use Rattle.x25_circuit.proofs.{Names.{rules}, TableLemmas.{reset_strays}}
use Rattle.x25_circuit.proofs.circuit.Circuit.hear_reset.Goals as goal

pub returns-in-Open : goal.returns-in-Open
returns-in-Open c = record {
  next = λ d x fits. rw c.in-Open.is (c.be_reset.ensures.fits d x fits);
  says = search rules;
  range = search rules;
  told = search rules;
}

pub returns-in-Resetting : goal.returns-in-Resetting
returns-in-Resetting c = record {
  next = λ d x fits. rw c.in-Resetting.is (c.end_reset.ensures.next d x fits);
  says = search rules;
  range = search rules;
  told = search rules;
}

pub returns-in_default : goal.returns-in_default
returns-in_default c =
    record {
      next = λ d x fits. rw (reset_strays d x _ _ _ c.in_default.not-Open c.in_default.not-Resetting c.in_default.not-Clearing)
          (c.unexpected.ensures.next d x fits);
      says = λ d x fits. rw (reset_strays d x _ _ _ c.in_default.not-Open c.in_default.not-Resetting c.in_default.not-Clearing)
          (c.unexpected.ensures.says d x fits);
      range = c.unexpected.ensures.range;
      told = c.unexpected.ensures.told;
    }
