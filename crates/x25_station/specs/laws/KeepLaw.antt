-- What every step of a station keeps, whatever comes: at most 256 packets wait in the link, and where the link isn't up
-- the layer is as LinkDown leaves it.
use Rattle.std.specs.Prelude.{◌≡◌, ℕ, ◌≤◌, false, List}
use Rattle.x25_link.specs.Outgoing.{waits}
use Rattle.x25_link.specs.Station.{is_up}
use Rattle.x25_layer.specs.Layer.{rested}
use Rattle.x25_layer.specs.Calls.{LayerRequest}
use Rattle.x25_given.specs.Given.{PlainGiven}
use Rattle.x25_station.specs.Config.{Settings}
use Rattle.x25_station.specs.Command.{Command}
use Rattle.x25_station.specs.Station.{Station}
use Rattle.x25_station.specs.Step.{Outcome, Did, Refused, connects, fires, receives, requests, gives, commands}

pub record IsKept (s : Station) : Type 0 where
  pub few : waits s.link.outgoing ≤ 256
  pub rests : is_up s.link.phase ≡ false → s.layer ≡ rested s.layer

-- a refusal changes nothing
abbrev pub KeptBy : Outcome → Type 0
KeptBy (Did step) = IsKept step.near
KeptBy (Refused e) = Unit {0}

abbrev pub ConnectKeeps : Type 0
ConnectKeeps = (c : Settings) (s : Station) → IsKept s → KeptBy (connects c s)

abbrev pub TimerKeeps : Type 0
TimerKeeps = (c : Settings) (s : Station) → IsKept s → KeptBy (fires c s)

abbrev pub RequestKeeps : Type 0
RequestKeeps = (c : Settings) (s : Station) (request : LayerRequest) → IsKept s → KeptBy (requests c s request)

abbrev pub CommandKeeps : Type 0
CommandKeeps = (c : Settings) (s : Station) (command : Command) → IsKept s → KeptBy (commands c s command)

abbrev pub GivenKeeps : Type 0
GivenKeeps = (c : Settings) (s : Station) (g : PlainGiven) (request : LayerRequest) → IsKept s
    → KeptBy (gives c s g request)

abbrev pub ReceiveKeeps : Type 0
ReceiveKeeps = (c : Settings) (s : Station) (octets : List ℕ) → IsKept s → IsKept (receives c s octets).near
