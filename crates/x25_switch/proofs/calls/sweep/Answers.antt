use Rattle.std.proofs.Common.{◌≡◌, List, true, sym, subst}
use Rattle.std.specs.Prelude.{slice_get}
use Rattle.x25_crossing.specs.Asking.{is_over}
use Rattle.x25_switch.specs.Calls.{PlainCall, Holds, Sweeps}
use Rattle.x25_switch.specs.code.Plain.{plains}
use Rattle.x25_switch.specs.declared.call.Call.{Call}
use Rattle.x25_switch.proofs.ApartLemmas.{swept_apart}
use Rattle.x25_switch.proofs.CallLemmas.{taken_out}
use Rattle.x25_switch.proofs.calls.sweep.Goals as goal

pub returns-in-Some-clause-swept : goal.returns-in-Some-clause-swept
returns-in-Some-clause-swept c =
    subst (λ (xs : List Call). Sweeps (plains c.args.calls.now.items) (plains xs)) (sym c.remove.ensures.items)
    (taken_out c.args.calls.now.items c.in-Some.index
    (subst (λ (xs : List Call). Holds (λ (call : PlainCall). is_over call.crossing ≡ true) (slice_get (plains xs) c.in-Some.index))
    c.as_slice.ensures.value c.in-Some.ensures.over))

pub returns-in-Some-clause-apart : goal.returns-in-Some-clause-apart
returns-in-Some-clause-apart c = λ apart. swept_apart (plains c.args.calls.now.items) _ (returns-in-Some-clause-swept c) apart
