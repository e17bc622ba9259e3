use Rattle.x25_circuit.proofs.Names.{ap, sym, subst, ◌∙◌, Pulled, FitsCircuit, ShownPartial}
use Rattle.x25_circuit.proofs.PullLemmas.{own_talk, pulls_empty, advances_next, advances_packet}
use Rattle.x25_circuit.proofs.circuit.Circuit.advance.Goals as goal

pub returns-in-Open-clause-next : goal.returns-in-Open-clause-next
returns-in-Open-clause-next c = λ d x fits.
    let size = c.outgoing-terms.ensures.size d x fits in
    let window = c.outgoing-terms.ensures.window d x fits in
    let talk = own_talk d c.args.self.now x c.outgoing-terms.result fits size in
    advances_next d c.args.self.now x c.outgoing-terms.result c.advance.new.self _ c.advance.result fits c.in-Open.is window size
    (c.advance.ensures.some x.talk talk) (c.advance.ensures.none x.talk talk) (c.advance.ensures.held x.talk talk)
    (ap (λ (p : ShownPartial). p.longest) c.advance.ensures.partial)

pub returns-in-Open-clause-packet : goal.returns-in-Open-clause-packet
returns-in-Open-clause-packet c = λ d x fits.
    let size = c.outgoing-terms.ensures.size d x fits in
    let window = c.outgoing-terms.ensures.window d x fits in
    let talk = own_talk d c.args.self.now x c.outgoing-terms.result fits size in
    advances_packet d c.args.self.now x c.outgoing-terms.result c.advance.new.self c.advance.result fits c.in-Open.is window size
    (c.advance.ensures.some x.talk talk) (c.advance.ensures.held x.talk talk)

pub returns-then-len-eq0-clause-next : goal.returns-then-len-eq0-clause-next
returns-then-len-eq0-clause-next c = λ d x fits.
    subst (λ (p : Pulled). FitsCircuit d c.args.self.now p.next) (sym (pulls_empty d c.args.self.now x fits (sym c.len.ensures.value ∙ c.if-len-eq0.true))) fits

pub returns-then-len-eq0-clause-packet : goal.returns-then-len-eq0-clause-packet
returns-then-len-eq0-clause-packet c = λ d x fits.
    sym (ap (λ (p : Pulled). p.packet) (pulls_empty d c.args.self.now x fits (sym c.len.ensures.value ∙ c.if-len-eq0.true)))
