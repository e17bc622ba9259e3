use Rattle.x25_layer.proofs.Names.{rules, sym, ap, subst, Pulled, FitsCircuit, packet_on}
use Rattle.x25_layer.proofs.pulling.pull_one.Goals as goal

pub returns-then-waits-eq0-clause-pulls : goal.returns-then-waits-eq0-clause-pulls
returns-then-waits-eq0-clause-pulls c = record {
  next = λ s x fits. subst (λ (p : Pulled). FitsCircuit s c.args.circuit.now p.next) (sym (c.waits.ensures.none s x fits c.if-waits-eq0.true)) fits;
  put = λ s x fits. ap (λ (p : Pulled). packet_on c.args.channel p.packet) (c.waits.ensures.none s x fits c.if-waits-eq0.true);
  long = search rules;
  clears = search rules;
  resets = search rules;
}
