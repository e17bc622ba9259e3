use Rattle.x25_circuit.proofs.Names.{refl, ◌∙◌, entered, outgoing}
use Rattle.x25_circuit.proofs.circuit.Circuit.enter.Goals as goal

pub returns-clause-fits : goal.returns-clause-fits
returns-clause-fits c = λ d x fits.
    record {
      role = fits.role;
      long_data = fits.long_data;
      longest = c.clear.ensures.longest ∙ fits.longest;
      state = refl;
      clears = fits.clears;
      resets = fits.resets;
      params = refl;
      calls = refl;
      talk = c.clear.ensures.fits (outgoing x).size (outgoing (entered x c.args.state c.args.flow.params c.args.calls)).size x.talk fits.talk;
    }
