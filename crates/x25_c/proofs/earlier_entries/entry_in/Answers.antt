use Rattle.std.{proofs.Common.{◌∙◌, ◌-◌, ap, arith, sym}, proofs.lemmas.List.{drop_all}, specs.Prelude.{slice_get}}
use Rattle.x25_c.{proofs.EarlierLemmas.{found_here, found_behind}, specs.code.EarlierEntries.{entries_in}}
use Rattle.x25_c.proofs.earlier_entries.entry_in.Goals as goal

pub returns-then-left-len : goal.returns-then-left-len
returns-then-left-len c =
    c.entry_at.ensures
    ∙ found_here c.args.steps.now c.loop-entries.entries-index c.entries-item.result c.loop-entries.left c.loop-entries-test.true c.entries-item.is
    (omega (arith, c.if-left-len.true, c.len.ensures.value))
    ∙ c.loop-entries.invariant

pub loop-entries-preserved : goal.loop-entries-preserved
loop-entries-preserved c =
    found_behind c.args.steps.now c.loop-entries.entries-index c.entries-item.result c.loop-entries.left c.loop-entries-test.true c.entries-item.is
    (c.loop-entries.left - c.len-left.result)
    (omega (arith, c.if-left-len.false, c.len.ensures.value, c.len-left.ensures.value))
    ∙ c.loop-entries.invariant

pub returns : goal.returns
returns c =
    sym (ap (λ steps. slice_get (entries_in steps) c.loop-entries.left) (drop_all c.loop-entries.entries-index c.args.steps.now c.loop-entries-test.false))
    ∙ c.loop-entries.invariant
