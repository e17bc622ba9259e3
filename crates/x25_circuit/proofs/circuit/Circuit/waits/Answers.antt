use Rattle.x25_circuit.proofs.{MessageLemmas.{wholes_all}, Names.{sym, ap, ◌∙◌, outgoing, wholes, waiting}, PullLemmas.{pulls_empty}}
use Rattle.x25_circuit.proofs.circuit.Circuit.waits.Goals as goal

pub returns-clause-value : goal.returns-clause-value
returns-clause-value c = λ d x fits.
    c.len.ensures.value ∙ sym (ap wholes fits.talk.rest ∙ wholes_all (outgoing x).size (waiting c.args.self.now.transfer.queue))

pub returns-clause-none : goal.returns-clause-none
returns-clause-none c = λ d x fits is. pulls_empty d c.args.self.now x fits (sym c.len.ensures.value ∙ is)
