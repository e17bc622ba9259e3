-- Which states of the definition a link and a packet layer stand for together, by how packets are written and read.
use Rattle.std.specs.Prelude.{◌≡◌, ℕ, []}
use Rattle.x25_link.specs.code.FitsLink.{ShownLink, FitsLink}
use Rattle.x25_layer.specs.declared.layer.Layer as layer_code
use Rattle.x25_layer.specs.code.FitsLayer.{FitsLayer}
use Rattle.x25_station.specs.declared.config.Manner.{Manner}
use Rattle.x25_station.specs.Config.{Settings, link_settings, layer_settings, manner_of}
use Rattle.x25_station.specs.Station.{Station}
use Rattle.x25_station.specs.laws.KeepLaw.{IsKept}

-- between calls no frame is kept in the link
pub record FitsParts (c : Settings) (manner : Manner) (l : ShownLink) (y : layer_code.Layer) (turn : ℕ)
    (s : Station) : Type 0 where
  pub link : FitsLink (link_settings c) l s.link
  pub layer : FitsLayer (layer_settings c) y s.layer
  pub turned : turn ≡ s.turn
  pub kept : IsKept s
  pub sent : l.frames ≡ []
  pub same : manner ≡ manner_of c

-- they stand for some state
abbrev pub AreMeant : Manner → ShownLink → layer_code.Layer → ℕ → Type 0
AreMeant manner l y turn = ∥ ((c : Settings) × (s : Station) × FitsParts c manner l y turn s) ∥₁
