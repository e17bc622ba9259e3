use Rattle.x25_circuit.proofs.{AskLemmas.{is_refused}, Names.{sym, ◌∙◌, arith, refl, outgoing}, TableLemmas.{send_at, send_waits}, TalkLemmas.{with_transfer, same_longest, waits_are}}
use Rattle.x25_circuit.proofs.circuit.Circuit.send.Goals as goal

pub returns-in-Some-clause-outcome : goal.returns-in-Some-clause-outcome
returns-in-Some-clause-outcome c = λ d x fits.
    rw (is_refused _ _ (c.in-Some.ensures.refusal d x c.args.marks c.args.user.now (omega arith) fits)) refl

pub returns-clause-outcome : goal.returns-clause-outcome
returns-clause-outcome c = λ d x fits.
    let waits = waits_are (outgoing x).size c.args.self.now.transfer x.talk fits.talk in
    rw (
      send_at d x x.state c.args.marks c.args.user.now (sym fits.state ∙ c.in_default.ensures.open),
      send_waits d x c.args.marks c.args.user.now (omega (arith, c.in_default.ensures.longest, fits.longest)) (omega (arith, waits, c.in_default.ensures.few)),
    ) ((
      with_transfer d c.args.self.now x _ _ _ fits (c.in_ok-push.ensures.fits (outgoing x).size x.talk fits.talk) (same_longest _ _ c.push.ensures.partial),
      refl,
    ))
