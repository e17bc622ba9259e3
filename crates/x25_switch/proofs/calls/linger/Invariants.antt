use Rattle.std.proofs.Common.{◌≡◌, map, vec_capacity, vec_len}
use Rattle.x25_switch.specs.Calls.{lingered_call}
use Rattle.x25_switch.specs.code.Plain.{plains}
use Rattle.x25_switch.proofs.CallLemmas.{left_mapped}
use Rattle.x25_switch.proofs.calls.linger.Given as goal

-- those in front have lingered
abbrev pub invariant-loop-index : goal.invariant-loop-index
invariant-loop-index l =
    (left_mapped lingered_call l.index (plains l.calls.items)
    ≡ map lingered_call (plains l.fn.calls.items))
    × (vec_capacity l.calls ≡ vec_capacity l.fn.calls) × (vec_len l.calls ≡ vec_len l.fn.calls)
