-- What a pull behind a step may still give (profile).
use Rattle.std.specs.Prelude.{◌≡◌, ◌⊎◌}
use Rattle.x25_layer.specs.Layer.{Layer}
use Rattle.x25_station.specs.Config.{Settings}
use Rattle.x25_station.specs.Pulling.{pulled}
use Rattle.x25_station.specs.Station.{Station}
use Rattle.x25_station.specs.Step.{Outcome, Did, Refused}
use Rattle.x25_station.specs.laws.TimerLaw.{StationEvent, outcome}

-- the packet layer is as it was, or a pull gives nothing
abbrev pub HasPulled : Settings → Layer → Station → Type 0
HasPulled c l s = (s.layer ≡ l) ⊎ ((pulled c s).near.layer ≡ s.layer)

abbrev pub PulledBy : Settings → Station → Outcome → Type 0
PulledBy c s (Did step) = HasPulled c s.layer step.near
PulledBy c s (Refused e) = Unit {0}

-- What a step lets go goes with it: a pull behind it gives something only where the layer is as it was before.
abbrev pub StepsPull : Type 0
StepsPull = (c : Settings) (s : Station) (event : StationEvent) → PulledBy c s (outcome c s event)
