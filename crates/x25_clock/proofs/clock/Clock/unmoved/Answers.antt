use Rattle.std.proofs.Common.{◌∙◌, ap, sym, arith}
use Rattle.x25_clock.specs.Clock.{unmoved_of}
use Rattle.x25_clock.proofs.ListedLemmas.{same_unmoved}
use Rattle.x25_clock.proofs.clock.Clock.unmoved.Goals as goal

pub returns : goal.returns
returns c =
    let v = c.args.self.now in
    c.unmoved_in.ensures ∙ ap (unmoved_of c.args.now) c.as_slice.ensures.value
    ∙ sym (same_unmoved c.args.now v.channels 0 v.channels v.waits.items (omega arith) v.listed)
