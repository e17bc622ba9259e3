use Rattle.std.proofs.Common.{◌≡◌, length}
use Rattle.x25_packet.specs.Classes.{none_own, own_in}
use Rattle.x25_packet.proofs.classes.asked.Given as goal

-- what is left says the rest
abbrev pub invariant-loop-behind : goal.invariant-loop-behind
invariant-loop-behind l = own_in l.own 0 l.rest ≡ own_in none_own 0 l.fn.field

abbrev pub decreases-loop-behind : goal.decreases-loop-behind
decreases-loop-behind l = length l.rest
