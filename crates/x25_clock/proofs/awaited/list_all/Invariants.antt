use Rattle.std.proofs.Common.{◌≡◌, ℕ, ◌≤◌, ◌-◌, length, vec_capacity}
use Rattle.x25_station.specs.code.FitsStation.{FitsStation}
use Rattle.x25_station.specs.Config.{Settings, layer_settings}
use Rattle.x25_station.specs.Station.{Station as State}
use Rattle.x25_clock.specs.Clock.{heeded_on, wait_at}
use Rattle.x25_clock.specs.Awaited.{AreListed}
use Rattle.x25_clock.proofs.ListedLemmas.{ReadsOn}
use Rattle.x25_clock.proofs.awaited.list_all.Given as goal

-- what is awaited on the channels so far is listed
abbrev pub invariant-loop-channel : goal.invariant-loop-channel
invariant-loop-channel l =
    (l.past ≤ l.most) × (l.at ≤ length l.old) × (vec_capacity l.list ≡ l.most) × AreListed l.past 0 l.list.items
    × ReadsOn l.old l.at l.past
    × ((c : Settings) (s : State) → FitsStation c l.station s → (h : ℕ) → 1 ≤ h → h ≤ l.past
    → wait_at h l.list.items ≡ heeded_on l.times l.now (layer_settings c) s.layer (wait_at h l.old))

abbrev pub decreases-loop-channel : goal.decreases-loop-channel
decreases-loop-channel l = l.most - l.past
