use Rattle.x25_layer.proofs.Names.{rules, ◌∙◌, ℕ, ◌≤◌, List, length, Bool, sym, subst, arith, answers_in, FitsLayer, restart_conf}
use Rattle.x25_layer.proofs.layer.Layer.hear_restart_conf.Goals as goal

pub returns-then-self-clause-hears : goal.returns-then-self-clause-hears
returns-then-self-clause-hears c = record {
  layer = λ s l fits.
      subst (λ (b : Bool). FitsLayer s c.restart_is_done.new.self (answers_in s b l.restarts l.circuits restart_conf).next)
      (sym (sym fits.restarting ∙ c.if-self.true))
      (c.restart_is_done.ensures.layer s l fits);
  put = search rules;
  told = search rules;
  nothing = search rules;
  short = search rules;
  kept = search rules;
}

pub returns-clause-hears : goal.returns-clause-hears
returns-clause-hears c = record {
  layer = λ s l fits.
      subst (λ (b : Bool). FitsLayer s c.send_restart.new.self (answers_in s b l.restarts l.circuits restart_conf).next)
      (sym (sym fits.restarting ∙ c.if-self.false))
      (c.send_restart.ensures.layer s l fits);
  put = search rules;
  told = search rules;
  nothing = search rules;
  short = subst (λ (octets : List ℕ). length octets ≤ 260) (sym c.send_restart.ensures.put) (omega arith);
  kept = search rules;
}
