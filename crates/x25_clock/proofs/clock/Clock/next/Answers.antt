use Rattle.std.proofs.Common.{◌∙◌, ap, sym, arith}
use Rattle.x25_clock.specs.Clock.{first_of, sooner}
use Rattle.x25_clock.proofs.ListedLemmas.{same_first}
use Rattle.x25_clock.proofs.clock.Clock.next.Goals as goal

pub returns : goal.returns
returns c =
    let v = c.args.self.now in
    let soonest = sooner (sooner v.t1 v.idle) v.restart in
    c.soonest.ensures ∙ ap (first_of c.sooner-first.result) c.as_slice.ensures.value
    ∙ ap (λ x. first_of x v.waits.items) (c.sooner-first.ensures ∙ ap (λ x. sooner x v.restart) c.sooner.ensures)
    ∙ sym (same_first v.channels 0 v.channels v.waits.items soonest (omega arith) v.listed)
