use Rattle.std.proofs.Common.{refl, subst, sym}
use Rattle.x25_frame.specs.Frame.{plain}
use Rattle.x25_possible_links.specs.code.Steps.{IsStep, IsTaken}
use Rattle.x25_judge.proofs.{MidstLemmas.{over_is}, Passing.{passing}}
use Rattle.x25_judge.proofs.links.passes.Goals as goal

pub returns-clause-both : goal.returns-clause-both
returns-clause-both c _ =
    let s = c.in-Some in
    let t = c.in-Some-takes in
    rw (c.stands.ensures, c.keep.ensures, c.stands-2.ensures)
    (passing c.args.window (plain c.args.frame.now) c.args.own.now c.args.other.now s.k s.next t.taken c.minds_quietly.new.own
    c.minds_quietly.new.other (subst (λ x. IsStep x s.k s.next c.args.own.now.set) c.shown-shown.ensures s.ensures.step)
    (subst (λ x. IsTaken x t.taken c.args.other.now.set) c.shown-shown.ensures t.ensures.taken)
    (c.if-not-minds_quietly.ensures.judged refl) (c.if-not-minds_quietly.ensures.minded refl) (over_is c.args.own.now.watch (sym c.if-not-is_over.ensures)))
