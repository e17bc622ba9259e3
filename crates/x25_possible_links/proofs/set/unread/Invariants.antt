use Rattle.std.proofs.Common.{◌≡◌, ◌+◌, ◌≤◌, drop}
use Rattle.x25_possible_links.specs.code.Steps.{unread}
use Rattle.x25_possible_links.proofs.set.unread.Given as goal

abbrev pub invariant-loop-frame : goal.invariant-loop-frame
invariant-loop-frame l =
    (unread (drop l.frame-index l.way) + l.count ≡ unread l.way) × (l.count ≤ l.frame-index)
