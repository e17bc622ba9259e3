use Rattle.x25_station.proofs.{ClockLemmas.{link_here, link_behind, link_nowhere, of_link, not_of_link}, Names.{ap, tells_link}}
use Rattle.x25_station.proofs.step.Step.tells_link.Goals as goal

pub loop-entry-init : goal.loop-entry-init
loop-entry-init c = ap tells_link c.as_slice-entry-items.ensures

pub returns-in-LinkUp : goal.returns-in-LinkUp
returns-in-LinkUp c =
    let lent = c.args.self.now.entries.lent in
    link_here lent c.as_slice-entry-items.result.now c.loop-entry.entry-index _ c.loop-entry-test.true _ c.loop-entry.invariant (of_link lent _ c.in-LinkUp.is)

pub returns-in-LinkUp-2 : goal.returns-in-LinkUp-2
returns-in-LinkUp-2 c =
    let lent = c.args.self.now.entries.lent in
    link_here lent c.as_slice-entry-items.result.now c.loop-entry.entry-index _ c.loop-entry-test.true _ c.loop-entry.invariant (of_link lent _ c.in-LinkUp.is)

pub loop-entry-preserved : goal.loop-entry-preserved
loop-entry-preserved c =
    let lent = c.args.self.now.entries.lent in
    link_behind lent c.as_slice-entry-items.result.now c.loop-entry.entry-index _ c.loop-entry-test.true _ c.loop-entry.invariant
    (not_of_link lent _ c.in_default.not-LinkUp c.in_default.not-LinkDown)

pub returns : goal.returns
returns c = link_nowhere c.args.self.now.entries.lent c.as_slice-entry-items.result.now c.loop-entry.entry-index _ c.loop-entry-test.false c.loop-entry.invariant
