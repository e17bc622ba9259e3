use Rattle.std.proofs.Common.{refl, ap, ap₂, ◌≡◌, ◌∙◌}
use Rattle.x25_frame.specs.Frame.{plain}
use Rattle.x25_judge.specs.{Doubt.{explains_told}, Judge.{book_of, next_by, remark_of, seen_by, tallies}}
use Rattle.x25_judge.specs.declared.{judge.Judge.{Judge}, links.Seen.{Seen}}
use Rattle.x25_judge.proofs.judge.Judge.takes.Goals as goal

told_on : (R : Judge → Seen) (N : Judge → Judge) (T : Seen → Judge → Judge) (r : Seen) (next was j : Judge) → was ≡ j → r ≡ R was
    → next ≡ N was → T r next ≡ T (R j) (N j)
told_on R N T r next was j e same goes = ap₂ T same goes ∙ ap (λ i. T (R i) (N i)) e

pub returns-else-passes-clause-next : goal.returns-else-passes-clause-next
returns-else-passes-clause-next c =
    let from = c.args.from in
    let frame = plain c.args.frame.now in
    c.tell-else-passes.ensures.next ∙ told_on (λ i. remark_of i from frame (seen_by i from frame))
    (λ i. next_by from frame (seen_by i from frame) (book_of i from frame (seen_by i from frame).seen) i)
    (λ r j. tallies (explains_told c.args.lack r.rule) r.rule j) c.sees-remark.result c.sees-remark.new.self c.passes.new.self c.args.self.now
    (c.if-passes.ensures.kept refl) c.sees-remark.ensures.remark c.sees-remark.ensures.next
