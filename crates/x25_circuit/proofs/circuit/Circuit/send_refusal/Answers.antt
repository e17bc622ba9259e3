use Rattle.x25_circuit.proofs.{Names.{sym, refl, arith, ◌∙◌, outgoing}, TableLemmas.{send_at, send_long, send_full, send_waits}, TalkLemmas.{waits_are}}
use Rattle.x25_circuit.proofs.circuit.Circuit.send_refusal.Goals as goal

pub returns-in-Open-clause-refusal : goal.returns-in-Open-clause-refusal
returns-in-Open-clause-refusal c = λ d x marks user same fits.
    rw (
      send_at d x x.state marks user (sym fits.state ∙ c.in-Open.is),
      send_long d x marks user (omega (arith, same, c.if-count-longest.true, c.longest-longest.ensures.value, fits.longest)),
    ) refl

pub returns-in-Open-2-clause-refusal : goal.returns-in-Open-2-clause-refusal
returns-in-Open-2-clause-refusal c = λ d x marks user same fits.
    let waits = waits_are (outgoing x).size c.args.self.now.transfer x.talk fits.talk in
    rw (
      send_at d x x.state marks user (sym fits.state ∙ c.in-Open-2.is),
      send_full d x marks user (omega (arith, same, c.if-count-longest.false, c.longest-longest.ensures.value, fits.longest))
          (omega (arith, waits, c.len.ensures.value, c.if-len-eq-PLACES.true)),
    ) refl

pub returns-in-Open-3-clause-refusal : goal.returns-in-Open-3-clause-refusal
returns-in-Open-3-clause-refusal c = λ d x marks user same fits.
    let waits = waits_are (outgoing x).size c.args.self.now.transfer x.talk fits.talk in
    rw (
      send_at d x x.state marks user (sym fits.state ∙ c.in-Open-3.is),
      send_waits d x marks user (omega (arith, same, c.if-count-longest.false, c.longest-longest.ensures.value, fits.longest))
          (omega (arith, waits, c.len.ensures.value, c.len.ensures.few, c.if-len-eq-PLACES.false)),
    ) refl
