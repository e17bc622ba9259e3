use Rattle.std.proofs.Common.{◌∙◌, ap, sym, arith}
use Rattle.x25_clock.specs.Clock.{overdue_of}
use Rattle.x25_clock.proofs.ListedLemmas.{same_overdue}
use Rattle.x25_clock.proofs.clock.Clock.overdue.Goals as goal

pub returns : goal.returns
returns c =
    let v = c.args.self.now in
    c.overdue_in.ensures ∙ ap (overdue_of c.args.now) c.as_slice.ensures.value
    ∙ sym (same_overdue c.args.now v.channels 0 v.channels v.waits.items (omega arith) v.listed)
