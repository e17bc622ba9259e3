use Rattle.x25_circuit.proofs.{Names.{inl, inr}, TableLemmas.{accept_strays}}
use Rattle.x25_circuit.proofs.circuit.Circuit.hear_accept.Goals as goal

pub returns-in-Calling : goal.returns-in-Calling
returns-in-Calling c =
    elim c.in-Calling.is [
      | inl e ↦ record {
        next = λ d x fits. rw e (c.connect.ensures.next d x fits);
        says = λ d x fits. rw e (c.connect.ensures.says d x fits);
        range = c.connect.ensures.range;
        told = c.connect.ensures.told;
      }
      | inr e ↦ record {
        next = λ d x fits. rw e (c.connect.ensures.next d x fits);
        says = λ d x fits. rw e (c.connect.ensures.says d x fits);
        range = c.connect.ensures.range;
        told = c.connect.ensures.told;
      }
    ]

pub returns-in_default : goal.returns-in_default
returns-in_default c =
    record {
      next = λ d x fits. rw (accept_strays d x _ _ c.in_default.not-Calling c.in_default.not-Collision c.in_default.not-Clearing)
          (c.unexpected.ensures.next d x fits);
      says = λ d x fits. rw (accept_strays d x _ _ c.in_default.not-Calling c.in_default.not-Collision c.in_default.not-Clearing)
          (c.unexpected.ensures.says d x fits);
      range = c.unexpected.ensures.range;
      told = c.unexpected.ensures.told;
    }
