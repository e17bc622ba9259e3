use Rattle.x25_world.proofs.{LineLemmas.{one_at_most, one_more}, Names.{◌∙◌, List, ℕ, ap, ap₂, arith, drop, put_by, ShownLine}}
use Rattle.x25_world.proofs.acting.put.Goals as goal

pub loop-place-preserved : goal.loop-place-preserved
loop-place-preserved c =
    let was = c.loop-place in
    record {
      room =
          let one = one_at_most (drop was.place was.frames) in
          omega (arith, ap (λ (v : ShownLine). v.room) c.put.ensures.line, one, c.put.ensures.count, was.invariant.room);
      count = c.put.ensures.count ∙ was.invariant.count;
      put = ap₂ (λ (v : ShownLine) (l : List (List ℕ)). put_by v c.args.at l) c.put.ensures.line c.put.ensures.rest
          ∙ one_more was.line c.args.at was.frames was.place ∙ was.invariant.put;
    }
