use Rattle.x25_circuit.proofs.Names.{ap, ◌∙◌, suc, add-one}
use Rattle.x25_circuit.proofs.circuit.Circuit.be_reset.Goals as goal

pub returns : goal.returns
returns c = record {
  fits = λ d x fits.
      let now = c.begin_stretch.ensures.fits d x fits in
      record {
        role = now.role;
        long_data = now.long_data;
        longest = now.longest;
        state = now.state;
        clears = now.clears;
        resets = add-one _ ∙ ap suc now.resets;
        params = now.params;
        calls = now.calls;
        talk = now.talk;
      };
}
