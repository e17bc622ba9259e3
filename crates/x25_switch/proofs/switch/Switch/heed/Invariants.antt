use Rattle.std.proofs.Common.{◌≡◌, List, drop, map}
use Rattle.x25_layer.specs.code.FitsLayer.{awaited_at}
use Rattle.x25_station.specs.Config.{Settings, layer_settings}
use Rattle.x25_station.specs.Station.{Station as State}
use Rattle.x25_station.specs.code.FitsStation.{FitsStation}
use Rattle.x25_station.specs.code.PlainEntry.{plain_entry}
use Rattle.x25_switch.specs.Calls.{PlainCall}
use Rattle.x25_switch.specs.Switch.{Heeds}
use Rattle.x25_switch.specs.code.Plain.{plains}
use Rattle.x25_switch.proofs.switch.Switch.heed.Given as goal

-- whatever the entries that are left lead to, all lead to
abbrev pub invariant-loop-entry : goal.invariant-loop-entry
invariant-loop-entry l =
    ((c : Settings) (s : State) → FitsStation c l.station s → (end : List PlainCall)
    → Heeds l.fn.self.octets l.line (awaited_at (layer_settings c) s.layer) (map (plain_entry l.lent) (drop l.entry-index l.entry-items))
    (plains l.self.calls.items) end
    → Heeds l.fn.self.octets l.line (awaited_at (layer_settings c) s.layer) (map (plain_entry l.lent) l.entry-items)
    (plains l.fn.self.calls.items) end)
    × (l.self.most ≡ l.fn.self.most) × (l.self.octets ≡ l.fn.self.octets)
