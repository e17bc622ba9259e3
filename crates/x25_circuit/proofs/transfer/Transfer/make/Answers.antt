use Rattle.x25_circuit.proofs.TalkLemmas.{partial_fits}
use Rattle.x25_circuit.proofs.transfer.Transfer.make.Goals as goal

pub returns-clause-fits : goal.returns-clause-fits
returns-clause-fits c = λ size t fits. partial_fits size c.args.self.now t c.make.new.self fits c.make.ensures.part c.make.ensures.longest
