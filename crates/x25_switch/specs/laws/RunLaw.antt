-- Each call of a switch is one that events of its crossing lead to: so what x25_crossing says of all events holds of
-- it.
use Rattle.std.specs.Prelude.{◌≡◌, ℕ, List, [], ◌∷◌, map, Result}
use Rattle.x25_bits.specs.declared.role.Role.{Role}
use Rattle.x25_circuit.specs.declared.awaits.Awaits.{Awaits}
use Rattle.x25_crossing.specs.Crossing.{PlainCrossing}
use Rattle.x25_crossing.specs.laws.HandingLaw.{Event, after}
use Rattle.x25_station.specs.Entry.{StationEntry}
use Rattle.x25_station.specs.declared.error.StationError.{StationError}
use Rattle.x25_station.specs.declared.station.Station.{Station}
use Rattle.x25_station.specs.declared.step.Step.{Step}
use Rattle.x25_switch.specs.Calls.{PlainCall, lingered_call}
use Rattle.x25_switch.specs.Switch.{Heeds}
use Rattle.x25_switch.specs.code.Asked.{IsAsked}

-- from a new call with room for so many octets
abbrev pub Runs : ℕ → PlainCrossing → Type 0
Runs octets x = (es : List Event) × (x ≡ (after octets es).call)

abbrev pub AllRun : ℕ → List PlainCall → Type 0
AllRun octets [] = Unit {0}
AllRun octets (c ∷ cs) = Runs octets c.crossing × AllRun octets cs

-- by what a switch heeds, by what it asks, and as time passes
abbrev pub HeedingRuns : Type 0
HeedingRuns =
    (octets line : ℕ) (awaited : ℕ → Awaits) (es : List StationEntry) (old new : List PlainCall)
    → Heeds octets line awaited es old new → AllRun octets old → AllRun octets new

abbrev pub AskingRuns : Type 0
AskingRuns =
    (octets line : ℕ) (role : Role) (calls left : List PlainCall) (old new : Station) (out : Step)
    (answer : Result Unit StationError) → IsAsked line role calls left old new out answer → AllRun octets calls
    → AllRun octets left

abbrev pub LingeringRuns : Type 0
LingeringRuns = (octets : ℕ) (cs : List PlainCall) → AllRun octets cs → AllRun octets (map lingered_call cs)
