use Rattle.std.proofs.Common.{◌≡◌, ◌≤◌, [], drop, length, take}
use Rattle.x25_possible.specs.code.Steps.{all_of, anew_at}
use Rattle.x25_possible.proofs.spots.renew_all.Given as goal

abbrev pub invariant-loop-index : goal.invariant-loop-index
invariant-loop-index l =
    (all_of anew_at (drop l.index l.spots) (take l.count l.spots) ≡ all_of anew_at l.fn.spots [])
    × (l.count ≤ l.index) × (length l.spots ≡ length l.fn.spots)
