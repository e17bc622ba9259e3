use Rattle.x25_circuit.proofs.{Names.{sym, ◌∙◌}, NumbersLemmas.{acked_unasked, acked_asked}}
use Rattle.x25_circuit.proofs.transfer.Transfer.ack.Goals as goal

pub returns-then-self-eq0-clause-fits : goal.returns-then-self-eq0-clause-fits
returns-then-self-eq0-clause-fits c = λ size t fits ok.
    acked_unasked size c.args.self.now t c.ack.new.self c.ack.result c.args.pr.number c.ack.ensures.step c.ack.ensures.resolves
    (sym c.is_ok.ensures.value ∙ ok) c.if-self-eq0.true fits

pub returns-clause-fits : goal.returns-clause-fits
returns-clause-fits c = λ size t fits ok.
    acked_asked size c.args.self.now t c.acknowledge-asked.new.sender c.in-Ok.count c.acknowledge-asked.result c.args.pr.number c.saturating_sub-self.result
    c.in-Ok.ensures.resolves c.in-Ok.ensures.stands_for (c.acknowledge-asked.ensures.asked t.acked t.sent fits.numbers) c.saturating_sub-self.ensures
    (c.acknowledge-asked.ensures.fits t.acked t.sent fits.numbers) fits
