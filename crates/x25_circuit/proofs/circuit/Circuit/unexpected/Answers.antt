use Rattle.x25_circuit.proofs.Names.{rules, sym}
use Rattle.x25_circuit.proofs.circuit.Circuit.unexpected.Goals as goal

pub returns : goal.returns
returns c = record {
  next = search rules;
  says = λ d x fits.
      rw (sym fits.role, sym c.diagnostic_in.ensures) (let says = c.clear_for.ensures.says d x fits in rw (sym fits.role) at says);
  range = search rules;
  told = search rules;
}
