use Rattle.x25_circuit.proofs.Names.{refl, ap, ◌∙◌, suc, add-one}
use Rattle.x25_circuit.proofs.circuit.Circuit.be_cleared.Goals as goal

pub returns : goal.returns
returns c = record {
  fits = λ d x fits.
      let now = c.end_call.ensures.fits d x fits in
      record {
        role = now.role;
        long_data = now.long_data;
        longest = now.longest;
        state = now.state;
        clears = add-one _ ∙ ap suc now.clears;
        resets = refl;
        params = now.params;
        calls = now.calls;
        talk = now.talk;
      };
}
