use Rattle.x25_circuit.proofs.{Names.{rules, [], subst, sym, row_undecoded, FitsCircuit, Says, State}, TableLemmas.{undecoded_clears}}
use Rattle.x25_circuit.proofs.circuit.Circuit.undecoded.Goals as goal

pub returns-in-Open : goal.returns-in-Open
returns-in-Open c = record {
  next = λ d x fits. subst (λ (s : State). FitsCircuit d c.reset_for.new.self (row_undecoded d x s c.args.error).next) fits.state
      (rw c.in-Open.is (c.reset_for.ensures.next d x fits));
  says = λ d x fits. rw (← fits.state, c.in-Open.is, sym c.diagnostic.ensures) (c.reset_for.ensures.says d x fits);
  range = search rules;
  told = search rules;
}

pub returns-in_default : goal.returns-in_default
returns-in_default c =
    record {
      next = λ d x fits. subst (λ (s : State). FitsCircuit d c.clear_for.new.self (row_undecoded d x s c.args.error).next) fits.state
          (rw (undecoded_clears d x _ _ c.in_default.not-Open c.in_default.not-Resetting c.in_default.not-Clearing)
          (c.clear_for.ensures.next d x fits));
      says = λ d x fits. subst
          (λ (s : State). Says [] c.clear_for.result (row_undecoded d x s c.args.error).owed (row_undecoded d x s c.args.error).notices) fits.state
          (rw (
            undecoded_clears d x _ _ c.in_default.not-Open c.in_default.not-Resetting c.in_default.not-Clearing,
            sym c.cause_of.ensures,
            sym c.diagnostic-in_default.ensures,
          ) (c.clear_for.ensures.says d x fits));
      range = c.clear_for.ensures.range;
      told = c.clear_for.ensures.told;
    }
