use Rattle.std.proofs.Common.{◌≤◌, arith, sym, subst}
use Rattle.x25_possible_links.proofs.LoopLemmas.{least_most}
use Rattle.x25_possible_links.proofs.set.LinkSet.trim.Goals as goal

pub drain-requires : goal.drain-requires
drain-requires c =
    let less : c.least-count.result ≤ c.len.result =
    subst (λ n. n ≤ c.len.result) (sym c.least-count.ensures) (least_most c.as_slice.result.now c.len.result) in
    (omega arith, (omega arith, (tt, (omega arith, subst (λ m. c.least-count.result ≤ m) c.len.ensures.value less))))
