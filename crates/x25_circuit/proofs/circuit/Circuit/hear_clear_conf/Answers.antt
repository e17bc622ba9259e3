use Rattle.x25_circuit.proofs.{Names.{rules}, TableLemmas.{clear_conf_strays}}
use Rattle.x25_circuit.proofs.circuit.Circuit.hear_clear_conf.Goals as goal

pub returns-in-Clearing : goal.returns-in-Clearing
returns-in-Clearing c = record {
  next = λ d x fits. rw c.in-Clearing.is (c.be_cleared.ensures.fits d x fits);
  says = search rules;
  range = search rules;
  told = search rules;
}

pub returns-in_default : goal.returns-in_default
returns-in_default c =
    record {
      next = λ d x fits. rw (clear_conf_strays d x _ c.in_default.not-Clearing) (c.unexpected.ensures.next d x fits);
      says = λ d x fits. rw (clear_conf_strays d x _ c.in_default.not-Clearing) (c.unexpected.ensures.says d x fits);
      range = c.unexpected.ensures.range;
      told = c.unexpected.ensures.told;
    }
