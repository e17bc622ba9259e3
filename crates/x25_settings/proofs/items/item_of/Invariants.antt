use Rattle.std.proofs.Common.{◌≡◌, map, length}
use Rattle.x25_settings.specs.Items.{item_of, items}
use Rattle.x25_settings.proofs.items.item_of.Given as goal

-- the option is sought among the words that are left
abbrev pub invariant-loop-item : goal.invariant-loop-item
invariant-loop-item g l =
    item_of l.choice (items l.command l.ended (map g.S.AsStr.text l.words)) ≡ item_of l.choice (items l.command l.fn.ended (map g.S.AsStr.text l.fn.words))

abbrev pub decreases-loop-item : goal.decreases-loop-item
decreases-loop-item g l = length l.words
