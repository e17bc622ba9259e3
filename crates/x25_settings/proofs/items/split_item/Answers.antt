use Rattle.std.proofs.Common.{◌∙◌, sym, true, false}
use Rattle.x25_settings.proofs.ItemLemmas.{alone, before, none}
use Rattle.x25_settings.proofs.items.split_item.Goals as goal

pub returns-in_default-clause-parts : goal.returns-in_default-clause-parts
returns-in_default-clause-parts g c = none g.S.AsStr.text c.args.command c.args.ended c.args.words.now c.in_default.ensures.parts

pub returns-in_default-split_word-clause-parts : goal.returns-in_default-split_word-clause-parts
returns-in_default-split_word-clause-parts g c =
    alone g.S.AsStr.text c.args.command c.args.ended c.args.words.now c.in-Some.word.now c.item_at.result c.ends-ends.result c.ends-ends.ensures
    c.in-Some.behind.now c.in-Some.ensures.parts c.in_default-split_word.ensures.parts c.item_at.ensures

pub returns-then-takes_next-clause-parts : goal.returns-then-takes_next-clause-parts
returns-then-takes_next-clause-parts g c =
    before g.S.AsStr.text c.args.command c.args.ended c.args.words.now c.in-Some.word.now c.item_at-item.result c.ends-ends.result c.ends-ends.ensures
    c.in-Some.behind.now c.in-Some-split_word.rest.now c.in-Some-split_word.next.now true c.in-Some.ensures.parts c.in-Some-split_word.ensures.parts
    c.item_at-item.ensures (sym c.if-takes_next.true ∙ c.takes_next.ensures)

pub returns-else-takes_next-clause-parts : goal.returns-else-takes_next-clause-parts
returns-else-takes_next-clause-parts g c =
    before g.S.AsStr.text c.args.command c.args.ended c.args.words.now c.in-Some.word.now c.item_at-item.result c.ends-ends.result c.ends-ends.ensures
    c.in-Some.behind.now c.in-Some-split_word.rest.now c.in-Some-split_word.next.now false c.in-Some.ensures.parts c.in-Some-split_word.ensures.parts
    c.item_at-item.ensures (sym c.if-takes_next.false ∙ c.takes_next.ensures)
