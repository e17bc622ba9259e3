use Rattle.std.proofs.Common.{◌∙◌, ◌<◌, ◌≤◌, length, sym, ap, subst, arith}
use Rattle.x25_crossing.specs.Told.{plain_told}
use Rattle.x25_switch.specs.code.Plain.{plain, plains}
use Rattle.x25_switch.specs.Calls.{AreApart, lost_call}
use Rattle.x25_switch.specs.declared.call.Call.{Call}
use Rattle.x25_switch.proofs.ApartLemmas.{lost_apart}
use Rattle.x25_switch.proofs.CallLemmas.{all_mapped, changed_more}
use Rattle.x25_switch.proofs.calls.lose.Goals as goal

pub loop-index-preserved : goal.loop-index-preserved
loop-index-preserved c =
    let f = lost_call (plain_told c.args.told) c.args.line in
    let kept = c.loop-index.invariant in
    let test = c.loop-index-test.true in
    let same = kept.2 in
    let low : c.loop-index.index < length c.loop-index.calls.items = omega (arith, test, same) in (
      changed_more f c.loop-index.index c.loop-index.calls.items c.lose.new.self c.index_mut.result.now low
          (c.lose.ensures ∙ ap (λ (e : Call). f (plain e)) c.index_mut.ensures.value) ∙ kept.0,
      kept.1,
      kept.2,
    )

pub returns-clause-lost : goal.returns-clause-lost
returns-clause-lost c =
    let f = lost_call (plain_told c.args.told) c.args.line in
    let kept = c.loop-index.invariant in
    let test = c.loop-index-test.false in
    let same = kept.2 in
    let few : length c.loop-index.calls.items ≤ c.loop-index.index = omega (arith, test, same) in
    sym (all_mapped f c.loop-index.index c.loop-index.calls.items few) ∙ kept.0

pub returns-clause-apart : goal.returns-clause-apart
returns-clause-apart c = λ apart.
    subst AreApart (sym (returns-clause-lost c)) (lost_apart (plain_told c.args.told) c.args.line (plains c.args.calls.now.items) apart)
