use Rattle.std.proofs.Common.{◌∙◌, ap, sym, map, false, Some, arith}
use Rattle.x25_settings.proofs.RangeLemmas.{given_range, most_within}
use Rattle.x25_settings.proofs.items.given.Goals as goal

pub returns-in-Some-Number-clause-within : goal.returns-in-Some-Number-clause-within
returns-in-Some-Number-clause-within g c =
    let found = sym c.item_of.ensures ∙ c.in-Some-Number.is ∙ ap (λ i. Some i) c.in-Some-Number.field-0-is in
    let range = given_range c.args.command c.args.choice _ c.in-Some-Number.n false (map g.S.AsStr.text c.args.words.now) found in
    omega (arith, range.1, most_within c.args.command c.args.choice)
