use Rattle.std.proofs.Common.{sym, ◌∙◌, drop}
use Rattle.x25_possible_links.proofs.LoopLemmas.{goes_large, goes_found}
use Rattle.x25_possible_links.proofs.spots.goes.Goals as goal

pub returns-then-is_large : goal.returns-then-is_large
returns-then-is_large c =
    goes_large c.args.mode c.args.frame c.args.way.now c.loop-mode.at c.loop-mode.stand c.loop-mode.out.items
    (drop c.loop-mode.at c.args.way.now) (sym c.is_large.ensures.same ∙ c.if-is_large.true) ∙ c.loop-mode.invariant

pub returns-in-Some : goal.returns-in-Some
returns-in-Some c =
    c.settle.ensures
    ∙ goes_found c.args.mode c.args.frame c.args.way.now c.loop-mode.at c.loop-mode.stand c.loop-mode.out.items
    (drop c.loop-mode.at c.args.way.now) c.in-Some.next (sym c.is_large.ensures.same ∙ c.if-is_large.false)
    (sym c.moves.ensures ∙ c.in-Some.is) ∙ c.loop-mode.invariant
