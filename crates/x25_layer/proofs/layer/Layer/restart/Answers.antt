use Rattle.x25_layer.proofs.Names.{rules, ◌≡◌, ◌∙◌, ℕ, ◌≤◌, List, length, inr, Ok, sym, subst, true, false, arith, Role, may_restart_for, Restarts}
use Rattle.x25_layer.proofs.{CallLemmas.{refuses, restart_goes}, Names.{LayerOutcome, Gives}}
use Rattle.x25_layer.proofs.layer.Layer.restart.Goals as goal

pub returns-in-Some : goal.returns-in-Some
returns-in-Some c = refuses _ c.args.self.now c.in-Some.error c.args.link (Restarts c.args.cause c.args.diagnostic) c.in-Some.ensures.kinds
    (λ s l fits. c.in-Some.ensures.refused s l (Restarts c.args.cause c.args.diagnostic) fits)

pub returns : goal.returns
returns c = record {
  does = record {
    gives = λ s l fits.
        let at_l : l.restarting ≡ false = sym fits.restarting ∙ c.in_default.ensures.ready in
        let given : may_restart_for s.circuit.role c.args.cause ≡ true =
        subst (λ (r : Role). may_restart_for r c.args.cause ≡ true) fits.role (sym c.may_restart_for.ensures ∙ c.if-not-may_restart_for.false) in
        subst (λ (o : LayerOutcome). Gives s c.send_restart.new.self (Ok tt) o)
        (sym (restart_goes s c.args.link.is_up c.args.link.is_full l c.args.cause c.args.diagnostic true c.in_default.ensures.up at_l c.if-link.false
        given))
        (c.send_restart.ensures.layer s l fits, c.send_restart.ensures.put);
    stays = search rules;
    short = subst (λ (octets : List ℕ). length octets ≤ 260) (sym c.send_restart.ensures.put) (omega arith);
    missing = search rules;
  };
  up = c.in_default.ensures.up;
  free = inr c.if-link.false;
}
