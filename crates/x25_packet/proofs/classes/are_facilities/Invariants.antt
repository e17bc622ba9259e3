use Rattle.std.proofs.Common.{◌≡◌, length}
use Rattle.x25_packet.specs.Classes.{are_facilities}
use Rattle.x25_packet.proofs.classes.are_facilities.Given as goal

-- what is left are facilities where the whole field is
abbrev pub invariant-loop-behind : goal.invariant-loop-behind
invariant-loop-behind l = are_facilities 0 l.rest ≡ are_facilities 0 l.fn.field

abbrev pub decreases-loop-behind : goal.decreases-loop-behind
decreases-loop-behind l = length l.rest
