use Rattle.x25_circuit.proofs.Names.{subst, false, entered, FitsCircuit, Params}
use Rattle.x25_circuit.proofs.circuit.Circuit.end_call.Goals as goal

pub returns-clause-fits : goal.returns-clause-fits
returns-clause-fits c = λ d x fits.
    subst (λ (p : Params). FitsCircuit d c.enter.new.self (entered x c.args.state p false)) c.usual.ensures (c.enter.ensures.fits d x fits)
