use Rattle.std.proofs.Common.{◌∙◌, ◌<◌, ◌≤◌, length, sym, ap, subst, arith}
use Rattle.x25_switch.specs.code.Plain.{plain, plains}
use Rattle.x25_switch.specs.Calls.{AreApart, lingered_call}
use Rattle.x25_switch.specs.declared.call.Call.{Call}
use Rattle.x25_switch.proofs.ApartLemmas.{lingered_apart}
use Rattle.x25_switch.proofs.CallLemmas.{all_mapped, changed_more}
use Rattle.x25_switch.proofs.calls.linger.Goals as goal

pub loop-index-preserved : goal.loop-index-preserved
loop-index-preserved c =
    let f = lingered_call in
    let kept = c.loop-index.invariant in
    let test = c.loop-index-test.true in
    let same = kept.2 in
    let low : c.loop-index.index < length c.loop-index.calls.items = omega (arith, test, same) in (
      changed_more f c.loop-index.index c.loop-index.calls.items c.linger.new.self c.index_mut.result.now low
          (c.linger.ensures ∙ ap (λ (e : Call). f (plain e)) c.index_mut.ensures.value) ∙ kept.0,
      kept.1,
      kept.2,
    )

pub returns-clause-lingered : goal.returns-clause-lingered
returns-clause-lingered c =
    let f = lingered_call in
    let kept = c.loop-index.invariant in
    let test = c.loop-index-test.false in
    let same = kept.2 in
    let few : length c.loop-index.calls.items ≤ c.loop-index.index = omega (arith, test, same) in
    sym (all_mapped f c.loop-index.index c.loop-index.calls.items few) ∙ kept.0

pub returns-clause-apart : goal.returns-clause-apart
returns-clause-apart c = λ apart. subst AreApart (sym (returns-clause-lingered c)) (lingered_apart (plains c.args.calls.now.items) apart)
