use Rattle.std.proofs.Common.{arith, ap, drop, ◌∙◌}
use Rattle.x25_possible.specs.code.Steps.{settles_found}
use Rattle.x25_possible.proofs.LoopLemmas.{found_end, found_full, found_on, made_none, made_some}
use Rattle.x25_possible.proofs.spots.«+find».Goals as goal

pub returns-then-not-settle_found : goal.returns-then-not-settle_found
returns-then-not-settle_found t c =
    found_full c.args.role c.args.last c.args.at c.args.way.now c.args.packet c.args.out.now.items
    (made_none c.settle_found.result c.settle_found.new.out.items _
    (c.settle_found.ensures ∙ ap (λ o. settles_found c.args.role c.args.at (drop c.args.at c.args.way.now) o c.args.out.now.items) c.found.ensures)
    c.if-not-settle_found.true)

pub returns-then-at-way : goal.returns-then-at-way
returns-then-at-way t c =
    found_end c.args.role c.args.last c.args.at c.args.way.now c.args.packet c.args.out.now.items c.settle_found.new.out.items
    (omega (arith, c.if-at-way.true))
    (made_some c.settle_found.result c.settle_found.new.out.items _
    (c.settle_found.ensures ∙ ap (λ o. settles_found c.args.role c.args.at (drop c.args.at c.args.way.now) o c.args.out.now.items) c.found.ensures)
    c.if-not-settle_found.false)

pub returns : goal.returns
returns t c =
    c.find.ensures
    ∙ found_on c.args.role c.args.last c.args.at c.args.way.now c.args.packet c.args.out.now.items c.settle_found.new.out.items _
    (omega (arith, c.if-at-way.false))
    (made_some c.settle_found.result c.settle_found.new.out.items _
    (c.settle_found.ensures ∙ ap (λ o. settles_found c.args.role c.args.at (drop c.args.at c.args.way.now) o c.args.out.now.items) c.found.ensures)
    c.if-not-settle_found.false)
