use Rattle.std.proofs.Common.{◌≡◌, drop}
use Rattle.x25_switch.specs.Calls.{place_of}
use Rattle.x25_switch.specs.code.Plain.{plains}
use Rattle.x25_switch.proofs.CallLemmas.{after}
use Rattle.x25_switch.proofs.calls.find.Given as goal

-- none of those in front has the leg
abbrev pub invariant-loop-index : goal.invariant-loop-index
invariant-loop-index l =
    after l.index (place_of l.line l.channel (plains (drop l.index l.calls))) ≡ place_of l.line l.channel (plains l.calls)
