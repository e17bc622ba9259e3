use Rattle.x25_circuit.proofs.{Names.{rules, lit≤}, TableLemmas.{clear_told}}
use Rattle.x25_circuit.proofs.circuit.Circuit.hear_clear.Goals as goal

pub returns-in-Clearing : goal.returns-in-Clearing
returns-in-Clearing c = record {
  next = λ d x fits. rw c.in-Clearing.is (c.be_cleared.ensures.fits d x fits);
  says = search rules;
  range = search rules;
  told = search rules;
}

pub returns-in-Free : goal.returns-in-Free
returns-in-Free c = record {
  next = λ d x fits. rw c.in-Free.is (c.be_cleared.ensures.fits d x fits);
  says = search rules;
  range = search rules;
  told = search rules;
}

pub returns-in_default : goal.returns-in_default
returns-in_default c =
    record {
      next = λ d x fits. rw (clear_told x _ _ _ c.in_default.not-Clearing c.in_default.not-Free) (c.be_cleared.ensures.fits d x fits);
      says = λ d x fits. rw (clear_told x _ _ _ c.in_default.not-Clearing c.in_default.not-Free) c.both.ensures.says;
      range = c.both.ensures.range ((lit≤ tt, lit≤ tt));
      told = search rules;
    }
