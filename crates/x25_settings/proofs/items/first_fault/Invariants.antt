use Rattle.std.proofs.Common.{◌≡◌, false, map, length}
use Rattle.x25_settings.specs.{Items.{fault_in, items}, Options.{has_end, has_file}}
use Rattle.x25_settings.proofs.items.first_fault.Given as goal

-- the first fault of the words that are left is the first one
abbrev pub invariant-loop-item : goal.invariant-loop-item
invariant-loop-item g l =
    fault_in l.clock l.end l.file (items l.command l.ended (map g.S.AsStr.text l.words))
    ≡ fault_in l.clock (has_end l.command) (has_file l.command) (items l.command false (map g.S.AsStr.text l.fn.words))

abbrev pub decreases-loop-item : goal.decreases-loop-item
decreases-loop-item g l = length l.words
