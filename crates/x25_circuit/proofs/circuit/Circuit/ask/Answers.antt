use Rattle.x25_circuit.proofs.{AskLemmas.{asked, asked_or_lacks, lacked, not_memory, not_refused}, Names.{refl, sym, ◌∙◌}}
use Rattle.x25_circuit.proofs.circuit.Circuit.ask.Goals as goal

pub returns-in-Call-clause-outcome : goal.returns-in-Call-clause-outcome
returns-in-Call-clause-outcome c = λ d x fits. rw (c.in-Call.is, c.with_packet.ensures)
    (asked_or_lacks d c.call.new.self c.call.result _ (c.call.ensures.outcome d x fits))

pub returns-in-Call-clause-memory : goal.returns-in-Call-clause-memory
returns-in-Call-clause-memory c = λ is.
    let lacks = lacked c.call.result (sym c.with_packet.ensures ∙ is) in
    record {
      asks = rw (c.in-Call.is, c.call.ensures.lacks lacks) refl;
      accepted = λ d x fits. rw c.in-Call.is (not_refused _ (c.call.ensures.accepted lacks d x fits));
    }

pub returns-in-Accept-clause-outcome : goal.returns-in-Accept-clause-outcome
returns-in-Accept-clause-outcome c = λ d x fits. rw (c.in-Accept.is, c.with_packet-in-Accept.ensures)
    (asked_or_lacks d c.accept.new.self c.accept.result _ (c.accept.ensures.outcome d x fits))

pub returns-in-Accept-clause-memory : goal.returns-in-Accept-clause-memory
returns-in-Accept-clause-memory c = λ is.
    let lacks = lacked c.accept.result (sym c.with_packet-in-Accept.ensures ∙ is) in
    record {
      asks = rw (c.in-Accept.is, c.accept.ensures.lacks lacks) refl;
      accepted = λ d x fits. rw c.in-Accept.is (not_refused _ (c.accept.ensures.accepted lacks d x fits));
    }

pub returns-in-Clear-clause-outcome : goal.returns-in-Clear-clause-outcome
returns-in-Clear-clause-outcome c = λ d x fits. rw (c.in-Clear.is, c.with_packet-in-Clear.ensures)
    (asked d c.clear.new.self c.clear.result _ (c.clear.ensures.outcome d x fits))

pub returns-in-Clear-clause-memory : goal.returns-in-Clear-clause-memory
returns-in-Clear-clause-memory c = λ is. absurd (not_memory c.clear.result c.clear.ensures.kinds (sym c.with_packet-in-Clear.ensures ∙ is))

pub returns-in-Interrupt-clause-outcome : goal.returns-in-Interrupt-clause-outcome
returns-in-Interrupt-clause-outcome c = λ d x fits. rw (c.in-Interrupt.is, c.with_packet-in-Interrupt.ensures)
    (asked d c.interrupt.new.self c.interrupt.result _ (c.interrupt.ensures.outcome d x fits))

pub returns-in-Interrupt-clause-memory : goal.returns-in-Interrupt-clause-memory
returns-in-Interrupt-clause-memory c = λ is. absurd (not_memory c.interrupt.result c.interrupt.ensures.kinds (sym c.with_packet-in-Interrupt.ensures ∙ is))

pub returns-in-Reset-clause-outcome : goal.returns-in-Reset-clause-outcome
returns-in-Reset-clause-outcome c = λ d x fits. rw (c.in-Reset.is, c.with_packet-in-Reset.ensures)
    (asked d c.reset.new.self c.reset.result _ (c.reset.ensures.outcome d x fits))

pub returns-in-Reset-clause-memory : goal.returns-in-Reset-clause-memory
returns-in-Reset-clause-memory c = λ is. absurd (not_memory c.reset.result c.reset.ensures.kinds (sym c.with_packet-in-Reset.ensures ∙ is))

pub returns-in-Ready-clause-outcome : goal.returns-in-Ready-clause-outcome
returns-in-Ready-clause-outcome c = λ d x fits. rw (c.in-Ready.is, c.with_packet-in-Ready.ensures)
    (asked d c.say.new.self c.say.result _ (c.say.ensures.outcome d x fits))

pub returns-in-Ready-clause-memory : goal.returns-in-Ready-clause-memory
returns-in-Ready-clause-memory c = λ is. absurd (not_memory c.say.result c.say.ensures.kinds (sym c.with_packet-in-Ready.ensures ∙ is))

pub returns-in-NotReady-clause-outcome : goal.returns-in-NotReady-clause-outcome
returns-in-NotReady-clause-outcome c = λ d x fits. rw (c.in-NotReady.is, c.with_packet-in-NotReady.ensures)
    (asked d c.say-in-NotReady.new.self c.say-in-NotReady.result _ (c.say-in-NotReady.ensures.outcome d x fits))

pub returns-in-NotReady-clause-memory : goal.returns-in-NotReady-clause-memory
returns-in-NotReady-clause-memory c = λ is. absurd
    (not_memory c.say-in-NotReady.result c.say-in-NotReady.ensures.kinds (sym c.with_packet-in-NotReady.ensures ∙ is))
