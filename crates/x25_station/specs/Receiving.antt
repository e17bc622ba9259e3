-- What a station is sure of while octets are received.
use Rattle.std.specs.Prelude.{◌≡◌, ℕ, ◌<◌, ◌≤◌, List, [], ◌∷◌, length, map, true}
use Rattle.x25_frame.specs.Spelling.{spelling_of}
use Rattle.x25_link.specs.Station.{LinkSettings, Side}
use Rattle.x25_link.specs.code.FitsLink.{ShownLink, LinkState, FitsWhole, limit_of, up_of, waiting_of}
use Rattle.x25_link.specs.code.Frames.{places_left}
use Rattle.x25_circuit.specs.Notice.{PlainNotice, incoming, interrupted}
use Rattle.x25_layer.specs.declared.layer.Layer as layer_code
use Rattle.x25_layer.specs.Layer.{LayerSettings, Layer, LayerNotice, on_channel, is_channel}
use Rattle.x25_layer.specs.laws.Rounds.{LinkView, Putting}
use Rattle.x25_layer.specs.code.FitsLayer.{FitsLayer}
use Rattle.x25_station.specs.Config.{Settings, link_settings, layer_settings}
use Rattle.x25_station.specs.Station.{all_put, view_of}

-- a side of a step of the link, as the state of a link that keeps its frames
abbrev pub kept_of : LinkSettings → Side → LinkState
kept_of c t = record { settings = c; station = t.near; kept = map (spelling_of c.role) t.out }

-- the link takes a packet of the layer, and has places for the frames of 16
pub record CanPut (l : ShownLink) : Type 0 where
  pub up : up_of l ≡ true
  pub free : waiting_of l < 256
  pub longest : 4099 ≤ limit_of l
  pub places : 16 ≤ places_left l.frames

-- Behind a step of the link the layer is as is said, and what it puts was put in the link, behind the frames that it
-- keeps; and the turn is as is said.
pub record PutsBehind (old : layer_code.Layer) (below : ShownLink) (turn : ℕ) (new : layer_code.Layer)
    (below₂ : ShownLink) (turn₂ : ℕ) (said : LinkView → LayerSettings → Layer → Putting) : Type 0 where
  pub layer : (c : Settings) (l : Layer) (t : Side) → FitsLayer (layer_settings c) old l
      → FitsWhole below (kept_of (link_settings c) t)
      → FitsLayer (layer_settings c) new (said (view_of (link_settings c) turn t.near) (layer_settings c) l).layer
  pub link : (c : Settings) (l : Layer) (t : Side) → FitsLayer (layer_settings c) old l
      → FitsWhole below (kept_of (link_settings c) t)
      → FitsWhole below₂ (kept_of (link_settings c)
      (all_put (link_settings c) (said (view_of (link_settings c) turn t.near) (layer_settings c) l).put t))
  pub turns : (c : Settings) (l : Layer) (t : Side) → FitsLayer (layer_settings c) old l
      → FitsWhole below (kept_of (link_settings c) t)
      → turn₂ ≡ (said (view_of (link_settings c) turn t.near) (layer_settings c) l).turn

-- the texts of a notice are at most 128 octets (messages aside)
abbrev pub IsShort : PlainNotice → Type 0
IsShort (incoming request) = length request.user ≤ 128
IsShort (interrupted user) = length user ≤ 128
IsShort notice = Unit {0}

-- a notice is short, and its channel is configured
abbrev pub IsTellable : LayerSettings → LayerNotice → Type 0
IsTellable c (on_channel h notice) = (is_channel c.channels h ≡ true) × IsShort notice
IsTellable c notice = Unit {0}

abbrev pub AreTellable : LayerSettings → List LayerNotice → Type 0
AreTellable c [] = Unit {0}
AreTellable c (notice ∷ notices) = IsTellable c notice × AreTellable c notices
