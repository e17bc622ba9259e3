use Rattle.x25_circuit.proofs.Names.{refl, ◌∙◌}
use Rattle.x25_circuit.proofs.circuit.Circuit.with.Goals as goal

pub returns-clause-fits : goal.returns-clause-fits
returns-clause-fits c = record {
  role = refl;
  long_data = refl;
  longest = c.in_ok-transfer.ensures.longest ∙ c.from.ensures;
  state = refl;
  clears = refl;
  resets = refl;
  params = c.usual.ensures;
  calls = refl;
  talk = c.in_ok-transfer.ensures.fits 128;
}
