use Rattle.x25_circuit.proofs.Names.{subst, Bool, entered, FitsCircuit, Params}
use Rattle.x25_circuit.proofs.circuit.Circuit.begin_stretch.Goals as goal

pub returns-clause-fits : goal.returns-clause-fits
returns-clause-fits c = λ d x fits.
    subst (λ (b : Bool). FitsCircuit d c.enter.new.self (entered x c.args.state x.params b)) fits.calls
    (subst (λ (p : Params). FitsCircuit d c.enter.new.self (entered x c.args.state p c.args.self.now.calls)) fits.params (c.enter.ensures.fits d x fits))
