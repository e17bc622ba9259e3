use Rattle.x25_circuit.proofs.NumbersLemmas.{numbers_sent}
use Rattle.x25_circuit.proofs.transfer.count_sent.Goals as goal

pub returns-clause-fits : goal.returns-clause-fits
returns-clause-fits c = λ n sent p fits same.
    numbers_sent c.args.sender.now c.offer.new.self c.offer.result n sent p c.args.asks c.offer.ensures.step c.offer.ensures.refused.0 c.requires fits same
