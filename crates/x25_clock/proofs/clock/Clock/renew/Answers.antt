use Rattle.std.proofs.Common.{◌∙◌, List, ap, sym, subst}
use Rattle.x25_clock.specs.declared.wait.Wait.{Wait}
use Rattle.x25_clock.specs.Clock.{renewed, spread}
use Rattle.x25_clock.specs.Awaited.{AreListed}
use Rattle.x25_clock.proofs.{ListedLemmas.{listed_mapped, spread_mapped, renewed_none}, ClockLemmas.{renewed_channel}}
use Rattle.x25_clock.proofs.clock.Clock.renew.Goals as goal

pub invariant_of-self-clause-listed : goal.invariant_of-self-clause-listed
invariant_of-self-clause-listed c =
    let v = c.args.self.now in
    let f = renewed v.times c.args.now c.args.channel in
    subst (λ (ws : List Wait). AreListed v.channels 0 ws) (sym c.renew_in.ensures.items)
    (listed_mapped f (renewed_channel v.times c.args.now c.args.channel) (renewed_none v.times c.args.now c.args.channel) v.channels 0 v.waits.items v.listed)

pub returns-clause-waits : goal.returns-clause-waits
returns-clause-waits c =
    let v = c.args.self.now in
    let f = renewed v.times c.args.now c.args.channel in
    ap (spread v.channels 1) c.renew_in.ensures.items
    ∙ spread_mapped f (renewed_channel v.times c.args.now c.args.channel) (renewed_none v.times c.args.now c.args.channel) v.channels 1 v.waits.items
