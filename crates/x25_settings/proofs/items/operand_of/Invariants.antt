use Rattle.std.proofs.Common.{◌≡◌, false, map, length}
use Rattle.x25_settings.specs.Items.{items, operand_of}
use Rattle.x25_settings.proofs.items.operand_of.Given as goal

abbrev pub invariant-loop-item : goal.invariant-loop-item
invariant-loop-item g l =
    operand_of l.skip (items l.command l.ended (map g.S.AsStr.text l.words)) ≡ operand_of l.fn.skip (items l.command false (map g.S.AsStr.text l.fn.words))

abbrev pub decreases-loop-item : goal.decreases-loop-item
decreases-loop-item g l = length l.words
