use Rattle.x25_layer.proofs.{CallLemmas.{layer_same}, Names.{rules, ◌∙◌, ℕ, ◌≤◌, List, length, refl, Bool, sym, subst, arith, answers_in, FitsLayer, restart}}
use Rattle.x25_layer.proofs.layer.Layer.hear_restart.Goals as goal

pub returns-then-self-clause-hears : goal.returns-then-self-clause-hears
returns-then-self-clause-hears c = record {
  layer = λ s l fits.
      subst (λ (b : Bool). FitsLayer s c.restart_is_done.new.self (answers_in s b l.restarts l.circuits (restart c.args.cause c.args.diagnostic)).next)
      (sym (sym fits.restarting ∙ c.if-self.true))
      (c.restart_is_done.ensures.layer s l fits);
  put = search rules;
  told = search rules;
  nothing = search rules;
  short = search rules;
  kept = search rules;
}

pub returns-clause-hears : goal.returns-clause-hears
returns-clause-hears c = record {
  layer = λ s l fits.
      layer_same s c.restart_is_done-2.new.self _ _ (record { role = refl; long_data = refl; ranges = refl; restarting = refl; restarts = refl }) refl
      (subst (λ (b : Bool). FitsLayer s c.restart_is_done-2.new.self (answers_in s b l.restarts l.circuits (restart c.args.cause c.args.diagnostic)).next)
      (sym (sym fits.restarting ∙ c.if-self.false))
      (c.restart_is_done-2.ensures.layer s l fits));
  put = search rules;
  told = search rules;
  nothing = search rules;
  short = subst (λ (octets : List ℕ). length octets ≤ 260) (sym c.spell.ensures.put) (omega arith);
  kept = search rules;
}
