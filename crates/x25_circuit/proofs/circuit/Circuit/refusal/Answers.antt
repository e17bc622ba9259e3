use Rattle.x25_circuit.proofs.Names.{◌≡◌, inl, inr, true, false, subst, call_in, refusal_of, Params}
use Rattle.std.specs.Result.{result_err}
use Rattle.x25_circuit.proofs.circuit.Circuit.refusal.Goals as goal

pub returns-in-Call : goal.returns-in-Call
returns-in-Call c = λ d x fits.
    let said = c.in-Call.proposal.now in
    rw (c.in-Call.is, c.err.ensures.value)
    (subst (λ (p : Params). result_err c.call_fields.result
    ≡ refusal_of (call_in d x x.state c.in-Call.called.now c.in-Call.calling.now c.in-Call.user.now (record { params = p; says_all = said.says_all })))
    c.params.ensures (c.call_fields.ensures.refusal d x said.says_all fits))

pub returns-in-Accept : goal.returns-in-Accept
returns-in-Accept c = λ d x fits. rw (c.in-Accept.is, c.err-in-Accept.ensures.value) (c.accepted.ensures.refusal d x fits)

pub returns-in-Clear : goal.returns-in-Clear
returns-in-Clear c = λ d x fits. rw c.in-Clear.is (c.clear_refusal.ensures.refusal d x c.in-Clear.diagnostic fits)

pub returns-in-Interrupt : goal.returns-in-Interrupt
returns-in-Interrupt c = λ d x fits. rw c.in-Interrupt.is (c.interrupt_refusal.ensures.refusal d x fits)

pub returns-in-Reset : goal.returns-in-Reset
returns-in-Reset c = λ d x fits. rw c.in-Reset.is (c.reset_refusal.ensures.refusal d x c.in-Reset.diagnostic fits)

pub returns-in-Ready : goal.returns-in-Ready
returns-in-Ready c = λ d x fits.
    elim c.in-Ready.is [
      | inl e ↦ rw e (c.closed.ensures.refusal d x true fits)
      | inr e ↦ rw e (c.closed.ensures.refusal d x false fits)
    ]
