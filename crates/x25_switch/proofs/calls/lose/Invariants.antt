use Rattle.std.proofs.Common.{◌≡◌, map, vec_capacity, vec_len}
use Rattle.x25_crossing.specs.Told.{plain_told}
use Rattle.x25_switch.specs.Calls.{lost_call}
use Rattle.x25_switch.specs.code.Plain.{plains}
use Rattle.x25_switch.proofs.CallLemmas.{left_mapped}
use Rattle.x25_switch.proofs.calls.lose.Given as goal

-- those in front have lost it
abbrev pub invariant-loop-index : goal.invariant-loop-index
invariant-loop-index l =
    (left_mapped (lost_call (plain_told l.told) l.line) l.index (plains l.calls.items)
    ≡ map (lost_call (plain_told l.told) l.line) (plains l.fn.calls.items))
    × (vec_capacity l.calls ≡ vec_capacity l.fn.calls) × (vec_len l.calls ≡ vec_len l.fn.calls)
