use Rattle.x25_circuit.proofs.{Names.{arith, length-append, outgoing}, NumbersLemmas.{unconfirmed_few}}
use Rattle.x25_circuit.proofs.circuit.Circuit.unconfirmed.Goals as goal

pub returns-clause-few : goal.returns-clause-few
returns-clause-few c = λ d x fits.
    let transfer = c.args.self.now.transfer in
    let few = unconfirmed_few (outgoing x).size transfer x.talk fits.talk in
    let waiting = length-append transfer.queue.cutter.left transfer.queue.ring.items in
    omega (arith, few, waiting, transfer.queue.few)
